-- Computed tests over numbers and lists, and what each says.
use Rattle.std.proofs.Common.{◌≡◌, ℕ, zero, suc, ◌<◌, Bool, true, false, ◌&&◌, eqb, List, [], ◌∷◌, length, Some, sym, refl, ap, ◌∙◌, subst, ⊎_elim, arith}
use Rattle.std.specs.List.{slice_get, AllByRecursion}
use Rattle.std.proofs.lemmas.Bool.{and_parts, and_from, eq-eqb, eqb-true, false≢true, cases_eq}

-- every number below n passes
unfoldable pub below? : ℕ → (ℕ → Bool) → Bool
below? zero t = true
below? (suc n) t = t n && below? n t

pub at_below : (n : ℕ) (t : ℕ → Bool) → below? n t ≡ true → (k : ℕ) → k < n → t k ≡ true
unfolding below?
at_below zero t ok k lt = absurd (omega arith)
at_below (suc n) t ok k lt =
    let parts = and_parts (t n) (below? n t) ok in
    ⊎_elim
    (λ same. subst (λ (x : ℕ). t x ≡ true) (sym same) parts.0)
    (λ other. at_below n t parts.1 k (omega arith))
    (cases_eq k n)

-- every item of a list passes
unfoldable pub all? : {X : Type 0} → (X → Bool) → List X → Bool
all? t [] = true
all? t (x ∷ xs) = t x && all? t xs

pub at_all : {X : Type 0} (t : X → Bool) (xs : List X) → all? t xs ≡ true → (k : ℕ) (x : X) → slice_get xs k ≡ Some x → t x ≡ true
unfolding all?
at_all t [] ok k x is = let z : ◌≡◌ {A = ℕ} 0 1 = cc in absurd (omega arith)
at_all t (y ∷ xs) ok zero x is =
    let same : y ≡ x = cc in
    ap t (sym same) ∙ (and_parts (t y) (all? t xs) ok).0
at_all t (y ∷ xs) ok (suc k) x is = at_all t xs (and_parts (t y) (all? t xs) ok).1 k x is

pub all_of : {X : Type 0} (P : X → Type 0) (t : X → Bool) → ((x : X) → t x ≡ true → P x) → (xs : List X) → all? t xs ≡ true → AllByRecursion P xs
unfolding all?
all_of P t says [] ok = tt
all_of P t says (x ∷ xs) ok =
    let parts = and_parts (t x) (all? t xs) ok in
    (says x parts.0, all_of P t says xs parts.1)

-- every list of m numbers below n passes
unfoldable pub lists? : ℕ → ℕ → (List ℕ → Bool) → Bool
unfolding below?
lists? n zero t = t []
lists? n (suc m) t = below? n (λ k. lists? n m (λ ks. t (k ∷ ks)))

pub at_lists : (n m : ℕ) (t : List ℕ → Bool) → lists? n m t ≡ true → (ks : List ℕ) → AllByRecursion (λ (k : ℕ). k < n) ks → length ks ≡ m → t ks ≡ true
unfolding lists?
at_lists n zero t ok [] below long = ok
at_lists n zero t ok (k ∷ ks) below long = absurd (omega arith)
at_lists n (suc m) t ok [] below long = absurd (omega arith)
at_lists n (suc m) t ok (k ∷ ks) below long =
    at_lists n m (λ ls. t (k ∷ ls)) (at_below n (λ j. lists? n m (λ ls. t (j ∷ ls))) ok k below.0) ks below.1 (omega arith)

-- two lists are the same
unfoldable pub same? : List ℕ → List ℕ → Bool
same? [] [] = true
same? [] (l ∷ ls) = false
same? (k ∷ ks) [] = false
same? (k ∷ ks) (l ∷ ls) = eqb k l && same? ks ls

pub same_true : (ks ls : List ℕ) → same? ks ls ≡ true → ks ≡ ls
unfolding same?
same_true [] [] ok = refl
same_true [] (l ∷ ls) ok = absurd (false≢true ok)
same_true (k ∷ ks) [] ok = absurd (false≢true ok)
same_true (k ∷ ks) (l ∷ ls) ok =
    let parts = and_parts (eqb k l) (same? ks ls) ok in
    let first = eqb-true k l parts.0 in
    let rest = same_true ks ls parts.1 in
    cc

pub same_self : (ks : List ℕ) → same? ks ks ≡ true
unfolding same?
same_self [] = refl
same_self (k ∷ ks) = and_from (eqb k k) (same? ks ks) (eq-eqb k k refl) (same_self ks)
