use Rattle.std.proofs.Common.{◌≡◌, refl, ap}
use Rattle.refusal.specs.Refusals.{layer}
use Rattle.refusal.specs.declared.Layer.TheVariants as at
use Rattle.refusal.specs.declared.Refusal.{Refusal}
use Rattle.refusal.specs.declared.Refusal.TheVariants.{Table}
use Rattle.codetable.specs.declared.table.CodeTable.{CodeTable}
use Rattle.codetable.specs.Codewords.{reweighed}
use Rattle.codetable.specs.Tables.{words, weigh_checks}
use Rattle.loader.specs.Sheets.{Sheet, with_table}
use Rattle.loader.specs.Held.{sheet}
use Rattle.loader.proofs.Passed.{passed}
use Rattle.loader.proofs.Loader.set_weight.Goals as goal

pub returns-in_err-set_weight : goal.returns-in_err-set_weight
returns-in_err-set_weight c =
    let s = sheet c.args.self.now in
    let t : Sheet = with_table s (words c.set_weight.new.self) in
    let refused = c.in_err-set_weight.ensures.answer in
    record {
      works = passed (weigh_checks s.table c.args.number) c.from_residual.result (Table c.in_err-set_weight.field-0.0) (λ _. t ≡ with_table s (reweighed s.table c.args.number c.args.weight)) (λ (f : Refusal). (layer f ≡ at.Table) × (t ≡ s)) c.from_residual.ensures.0 c.from_residual.ensures.1 refused.0 (refl, ap (λ (x : CodeTable). with_table s (words x)) refused.1);
    }
