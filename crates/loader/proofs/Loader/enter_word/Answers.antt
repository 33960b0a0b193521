use Rattle.std.proofs.Common.{◌≡◌, [], ◌∷◌, ◌++◌, refl, ap}
use Rattle.refusal.specs.Refusals.{layer}
use Rattle.refusal.specs.declared.Layer.TheVariants as at
use Rattle.refusal.specs.declared.Refusal.{Refusal}
use Rattle.refusal.specs.declared.Refusal.TheVariants.{Table}
use Rattle.codetable.specs.declared.table.CodeTable.{CodeTable}
use Rattle.codetable.specs.Tables.{words, entered, word_checks}
use Rattle.loader.specs.Sheets.{Sheet, with_table}
use Rattle.loader.specs.Held.{sheet}
use Rattle.loader.proofs.Passed.{passed}
use Rattle.loader.proofs.Loader.enter_word.Goals as goal

pub returns-in_err-push : goal.returns-in_err-push
returns-in_err-push c =
    let s = sheet c.args.self.now in
    let t : Sheet = with_table s (words c.push.new.self) in
    let refused = c.in_err-push.ensures.answer in
    record {
      works = passed (word_checks s.table c.args.len c.args.value) c.from_residual.result (Table c.in_err-push.field-0.0) (λ _. t ≡ with_table s (s.table ++ entered c.args.len c.args.value ∷ [])) (λ (f : Refusal). (layer f ≡ at.Table) × (t ≡ s)) c.from_residual.ensures.0 c.from_residual.ensures.1 refused.0 (refl, ap (λ (x : CodeTable). with_table s (words x)) refused.1);
    }
