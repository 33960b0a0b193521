-- A fault that passes up is the refusal of the caller.
use Rattle.std.proofs.Common.{◌≡◌, true, List, is_err, IsErrAnd, Ok, Err, Result, sym, subst}
use Rattle.std.proofs.lemmas.Bool.{false≢true}
use Rattle.refusal.specs.Checks.{Check, Judged, FirstDue}
use Rattle.refusal.specs.Refusals.{number}
use Rattle.refusal.specs.declared.Refusal.{Refusal}
use Rattle.refusal.specs.declared.SearchFault.{SearchFault}
use Rattle.refusal.specs.declared.SearchFault.TheVariants.{BadCount, Short, NoFit}
use Rattle.decoder.specs.Decoding.{Spares}

pub passed : {X : Type 0} (cs : List Check) (r : Result X Refusal) (x : Refusal) (done : X → Type 0) (kept : Refusal → Type 0) → is_err r ≡ true → IsErrAnd r (λ e. e ≡ x) → FirstDue cs (number x) → kept x → Judged cs (λ f. f) r done kept
passed cs (Ok y) x done kept err is due held = absurd (false≢true err)
passed cs (Err e) x done kept err is due held =
    subst (λ (f : Refusal). FirstDue cs (number f) × kept f) (sym is) (due, held)

-- what a refused decoding leaves, said in other words
pub spares_as : (f : SearchFault) (A B L : Type 0) → (A → B) → Spares f A L → Spares f B L
spares_as BadCount A B L turn held = turn held
spares_as Short A B L turn held = turn held
spares_as NoFit A B L turn held = held
