-- Lists by number, and the words of a table after a write.
use Rattle.std.proofs.Common.{◌≡◌, ℕ, zero, suc, ◌+◌, ◌<◌, ◌≤◌, List, [], ◌∷◌, ◌++◌, length, get_or, take, drop, set, Some, None, refl, ap, ◌∙◌, suc-le-suc, zero-le, arith}
use Rattle.std.specs.List.{slice_get}
use Rattle.std.proofs.lemmas.List.{length-take, take_more, drop_more}
use Rattle.std.proofs.lemmas.Option.{slice_get_within, get_or_from_slice_get}
use Rattle.codetable.specs.declared.word.Codeword.{Codeword}
use Rattle.codetable.specs.declared.table.CodeTable.{CodeTable}
use Rattle.codetable.specs.Codewords.{reweighed, most_words}
use Rattle.codetable.specs.Tables.{words}

-- a list has an element just at the numbers below its length
pub nth_within : {X : Type 0} (xs : List X) (k : ℕ) (x : X) → slice_get xs k ≡ Some x → k < length xs
nth_within = slice_get_within

pub nth_missing : {X : Type 0} (xs : List X) (k : ℕ) → slice_get xs k ≡ None → length xs ≤ k
nth_missing [] k e = zero-le
nth_missing (x ∷ xs) zero e = absurd (let z : ◌≡◌ {A = ℕ} 0 1 = cc in omega arith)
nth_missing (x ∷ xs) (suc k) e = suc-le-suc (nth_missing xs k e)

pub nth_there : {X : Type 0} (xs : List X) (k : ℕ) → (length xs ≤ k → ⊥) → (x : X) × (slice_get xs k ≡ Some x)
nth_there [] k h = absurd (h zero-le)
nth_there (x ∷ xs) zero h = (x, refl)
nth_there (x ∷ xs) (suc k) h = nth_there xs k (λ l. h (suc-le-suc l))

-- the numbers of what is left
pub nth_drop : {X : Type 0} (xs : List X) (m k : ℕ) → slice_get (drop m xs) k ≡ slice_get xs (m + k)
nth_drop xs zero k = let same : k ≡ zero + k = omega arith in ap (slice_get xs) same
nth_drop [] (suc m) k = refl
nth_drop (x ∷ xs) (suc m) k = let same : suc (m + k) ≡ suc m + k = omega arith in nth_drop xs m k ∙ ap (slice_get (x ∷ xs)) same

-- the element at a number, behind those before it and before those behind it
module _ {X : Type 0} (xs : List X) (k : ℕ) (x : X) (at_k : slice_get xs k ≡ Some x) where
  pub here : get_or xs k x ≡ x
  here = get_or_from_slice_get xs k x x at_k

  pub take_nth : take (k + 1) xs ≡ take k xs ++ x ∷ []
  take_nth = take_more xs k x (nth_within xs k x at_k) ∙ ap (λ (y : X). take k xs ++ y ∷ []) here

  pub drop_nth : drop k xs ≡ x ∷ drop (k + 1) xs
  drop_nth = drop_more xs k x (nth_within xs k x at_k) ∙ ap (λ (y : X). y ∷ drop (k + 1) xs) here

-- a write of one weight
pub set-reweighed : (ws : List Codeword) (k x : ℕ) (w : Codeword) → slice_get ws k ≡ Some w → set ws k (record { len = w.len; value = w.value; weight = x }) ≡ reweighed ws k x
set-reweighed [] k x w e = refl
set-reweighed (v ∷ ws) zero x w e = let same : v ≡ w = cc in cc
set-reweighed (v ∷ ws) (suc k) x w e = ap (λ (l : List Codeword). v ∷ l) (set-reweighed ws k x w e)

pub few_words : (t : CodeTable) → length (words t) ≤ most_words
few_words t = let inside = t.inner.within in simp length-take (omega arith)
