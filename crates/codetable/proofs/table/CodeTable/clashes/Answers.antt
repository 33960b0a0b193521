use Rattle.std.proofs.Common.{refl, rules, tests}
use Rattle.std.proofs.lemmas.Iterator.{cases_from_any, YieldsList-from_slice}
use Rattle.std.proofs.lemmas.Iterator.Adapters.{serves_from_places}
use Rattle.std.proofs.lemmas.Option.{slice_get_read}
use Rattle.codetable.specs.Codewords.{Conflict}
use Rattle.codetable.specs.Tables.{words}
use Rattle.codetable.proofs.Told.{any_tells}
use Rattle.codetable.proofs.table.CodeTable.clashes.Goals as goal

pub returns : goal.returns
returns c =
    record {
      tells = any_tells (λ w. Conflict w c.args.word) (words c.args.self.now) c.any.result
          (cases_from_any _ _ _ (λ w. Conflict w c.args.word) (λ w. Conflict w c.args.word → ⊥) c.any.ensures.ran (YieldsList-from_slice _ cc) (λ x q k. search (rules, tests)) (λ x q k. search (rules, tests)));
    }

pub any-requires-clause-callable : goal.any-requires-clause-callable
any-requires-clause-callable c =
    serves_from_places (YieldsList-from_slice (words c.args.self.now) cc) (λ x q k. search (rules, tests))
    (λ x k inside at. let formed = c.args.self.now.formed k x.now (slice_get_read _ _ k x.now refl inside at) in search rules)
