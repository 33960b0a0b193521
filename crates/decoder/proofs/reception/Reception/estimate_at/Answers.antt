use Rattle.std.proofs.Common.{◌≡◌, Some, sym, ap, ◌∙◌, rules, tests}
use Rattle.std.specs.List.{slice_get}
use Rattle.std.proofs.lemmas.Option.{slice_get-get_or}
use Rattle.std.proofs.lemmas.Iterator.{YieldsList-from_slice}
use Rattle.std.proofs.lemmas.Iterator.Adapters.{option_map_id, serves_from_places}
use Rattle.std.proofs.lemmas.Iterator.Consumers.{YieldsList-from_filter_map, min_from_yields_List}
use Rattle.decoder.specs.Receptions.{code, observed}
use Rattle.decoder.proofs.Forward.{by_word, estimate_least}
use Rattle.decoder.proofs.reception.Reception.estimate_at.Goals as goal

pub min-requires-clause-can : goal.min-requires-clause-can
min-requires-clause-can c =
    let t = c.args.self.now.table.now in
    let ws = code c.args.self.now in (
      tt,
      tt,
      serves_from_places (YieldsList-from_slice ws cc) (λ x q k. search rules) (λ x k lt at.
          let there : slice_get ws k ≡ Some x.now = slice_get-get_or ws k x.now lt ∙ ap Some (sym at) in
          let some = (t.formed k x.now there).0 in
          search rules),
    )

pub returns : goal.returns
returns c =
    let r = c.args.self.now in
    let ws = code r in
    let least = min_from_yields_List _ c.min.result c.min.ensures.ran (YieldsList-from_filter_map _ (by_word ws (observed r) c.args.j) (YieldsList-from_slice ws cc) c.filter_map.ensures.closure (λ x o q k. search (rules, tests))) in
    record { estimate = sym (option_map_id _) ∙ least ∙ sym (estimate_least ws (observed r) c.args.j c.requires.before r.table.now.formed) }
