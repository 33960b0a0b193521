use Rattle.std.proofs.Common.{◌≡◌, ◌-◌, length, take, refl, ap}
use Rattle.refusal.specs.Refusals.{layer}
use Rattle.refusal.specs.declared.Layer.TheVariants as at
use Rattle.refusal.specs.declared.Refusal.{Refusal}
use Rattle.refusal.specs.declared.Refusal.TheVariants.{Table}
use Rattle.codetable.specs.declared.table.CodeTable.{CodeTable}
use Rattle.codetable.specs.Tables.{words, drop_checks}
use Rattle.loader.specs.Sheets.{Sheet, with_table}
use Rattle.loader.specs.Held.{sheet}
use Rattle.loader.proofs.Passed.{passed}
use Rattle.loader.proofs.Loader.drop_word.Goals as goal

pub returns-in_err-pop : goal.returns-in_err-pop
returns-in_err-pop c =
    let s = sheet c.args.self.now in
    let t : Sheet = with_table s (words c.pop.new.self) in
    let refused = c.in_err-pop.ensures.answer in
    record {
      works = passed (drop_checks s.table) c.from_residual.result (Table c.in_err-pop.field-0.0) (λ _. t ≡ with_table s (take (length s.table - 1) s.table)) (λ (f : Refusal). (layer f ≡ at.Table) × (t ≡ s)) c.from_residual.ensures.0 c.from_residual.ensures.1 refused.0 (refl, ap (λ (x : CodeTable). with_table s (words x)) refused.1);
    }
