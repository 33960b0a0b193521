use Rattle.std.proofs.Common.{◌≡◌, [], ◌∷◌, ◌++◌, ℤ, refl, ap, subst}
use Rattle.std.proofs.lemmas.Int.{to_z-of_z}
use Rattle.refusal.specs.Checks.{FirstDue}
use Rattle.refusal.specs.Refusals.{layer, number}
use Rattle.refusal.specs.declared.Layer.TheVariants as at
use Rattle.refusal.specs.declared.Refusal.{Refusal}
use Rattle.refusal.specs.declared.Refusal.TheVariants.{Take}
use Rattle.softvalues.specs.declared.received.SoftValues.{SoftValues}
use Rattle.softvalues.specs.Received.{values, value_checks}
use Rattle.loader.specs.Sheets.{Sheet, with_received}
use Rattle.loader.specs.Held.{sheet}
use Rattle.loader.proofs.Passed.{passed}
use Rattle.loader.proofs.Loader.add_value.Goals as goal

pub returns-in_err-push : goal.returns-in_err-push
returns-in_err-push c =
    let s = sheet c.args.self.now in
    let t : Sheet = with_received s (values c.push.new.self) in
    let refused = c.in_err-push.ensures.answer in
    let due = subst (λ (v : ℤ). FirstDue (value_checks s.received v) (number (Take c.in_err-push.field-0.0))) (to_z-of_z _ c.args.value c.ranges.value) refused.0 in
    record {
      works = passed (value_checks s.received c.args.value) c.from_residual.result (Take c.in_err-push.field-0.0) (λ _. t ≡ with_received s (s.received ++ c.args.value ∷ [])) (λ (f : Refusal). (layer f ≡ at.Take) × (t ≡ s)) c.from_residual.ensures.0 c.from_residual.ensures.1 due (refl, ap (λ (x : SoftValues). with_received s (values x)) refused.1);
    }
