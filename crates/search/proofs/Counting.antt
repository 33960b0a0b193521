-- A tally counts the numbers that have what it tells.
use Rattle.std.proofs.Common.{◌≡◌, ℕ, zero, suc, ◌+◌, ◌<◌, ◌≤◌, ◌⊎◌, Some, None, Option, sym, refl, ap, ◌∙◌, subst, ⊎_elim, arith}
use Rattle.std.proofs.lemmas.Bool.{cases_eq}
use Rattle.queue.specs.Queues.{tally, one as one_of_lem}
use Rattle.queue.proofs.Tallies.{tally_same, tally_bare}
use Rattle.search.specs.Searches.{Counted, none, one, not}

-- an option tells whether P holds
abbrev pub Tells : Type 0 → Option ℕ → Type 0
Tells P o = (P × (c : ℕ) × (o ≡ Some c)) ⊎ ((P → ⊥) × (o ≡ None))

pub counted : (P : ℕ → Type 0) (f : ℕ → Option ℕ) (n : ℕ) → ((p : ℕ) → p < n → Tells (P p) (f p)) → Counted P n (tally f n)
unfolding tally
counted P f zero tells = none
counted P f (suc n) tells =
    let before = counted P f n (λ p lt. tells p (omega arith)) in
    ⊎_elim
    (λ h.
    let here : one_of_lem (f n) ≡ 1 = ap one_of_lem h.2 in
    let sum : suc (tally f n) ≡ tally f n + one_of_lem (f n) = omega arith in
    subst (λ (x : ℕ). Counted P (suc n) x) sum (one before h.0))
    (λ h.
    let here : one_of_lem (f n) ≡ 0 = ap one_of_lem h.1 in
    let sum : tally f n ≡ tally f n + one_of_lem (f n) = omega arith in
    subst (λ (x : ℕ). Counted P (suc n) x) sum (not before h.0))
    (tells n (omega arith))

-- no place past m is held
pub tally_past : (f : ℕ → Option ℕ) (m n : ℕ) → m ≤ n → ((p : ℕ) → m ≤ p → f p ≡ None) → tally f n ≡ tally f m
unfolding tally
tally_past f m zero le past = let e : 0 ≡ m = omega arith in ap (tally f) e
tally_past f m (suc n) le past =
    ⊎_elim
    (λ h. ap (tally f) (sym h))
    (λ h.
    let le' : m ≤ n = omega arith in
    let before = tally_past f m n le' past in
    let here : one_of_lem (f n) ≡ 0 = ap one_of_lem (past n le') in
    let sum : tally f n + one_of_lem (f n) ≡ tally f m = omega arith in
    sum)
    (cases_eq m (suc n))

-- no place is held
pub tally_blank : (f : ℕ → Option ℕ) (n : ℕ) → ((p : ℕ) → p < n → f p ≡ None) → tally f n ≡ 0
tally_blank f n e = tally_same (λ p. None) f n e ∙ tally_bare (λ p. None) n (λ p. refl)
