-- What a test tells, from what it tells otherwise or of each element of a row.
use Rattle.std.proofs.Common.{◌≡◌, ℕ, ◌<◌, Bool, true, false, eqb, List, length, Some, MatchBool, Result, Ok, Err, IsOk, OnOk, ⊎_elim, sym, subst, zero-le, arith}
use Rattle.std.proofs.lemmas.Bool.{eqb-true, eqb-false, cases_Bool, false≢true}
use Rattle.std.specs.List.{slice_get, AllWithin, HoldsAt}
use Rattle.std.proofs.lemmas.Option.{slice_get_within}
use Rattle.codetable.proofs.Stored.{nth_there, here}

pub tells : (r : Bool) (P Q R S : Type 0) → MatchBool r P Q → (P → R) → (Q → S) → MatchBool r R S
tells true P Q R S p f g = f p
tells false P Q R S q f g = g q

-- the test that two numbers are equal tells whatever holds just where they are
pub eqb_tells : (m n : ℕ) (P : Type 0) → (m ≡ n → P) → (P → m ≡ n) → MatchBool (eqb m n) P (P → ⊥)
eqb_tells m n P to from =
    ⊎_elim
    (λ t. rw t (to (eqb-true m n t)))
    (λ f. rw f (λ p. eqb-false m n f (from p)))
    (cases_Bool (eqb m n))

-- whether P holds of an element of a row
pub any_tells : {X : Type 0} (P : X → Type 0) (xs : List X) (r : Bool) → MatchBool r ((k : ℕ) × (k < length xs) × HoldsAt P xs k) (AllWithin (λ x. P x → ⊥) xs 0 (length xs)) → MatchBool r ((k : ℕ) × (x : X) × (slice_get xs k ≡ Some x) × P x) (((k : ℕ) × (x : X) × (slice_get xs k ≡ Some x) × P x) → ⊥)
any_tells {X} P xs r e =
    tells r _ _ _ _ e
    (λ p. let there = nth_there xs p.0 (λ h. let inside = p.1 in omega arith) in
    (p.0, there.0, there.1, subst P (here xs p.0 there.0 there.1) (p.2 there.0)))
    (λ none p. none p.0 p.1 zero-le (slice_get_within xs p.0 p.1 p.2) (subst P (sym (here xs p.0 p.1 p.2)) p.3))

-- what holds of an answer that accepts
pub on_ok : {X E : Type 0} (r : Result X E) (P : Type 0) → IsOk r → OnOk r P → P
on_ok (Ok x) P ok p = p
on_ok (Err e) P ok p = absurd (false≢true ok)
