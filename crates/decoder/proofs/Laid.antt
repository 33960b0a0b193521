-- One bit more of a word that is laid on values.
use Rattle.std.proofs.Common.{◌≡◌, ℕ, zero, suc, ◌+◌, ◌<◌, ◌≤◌, Bool, false, not, List, [], ◌∷◌, length, get_or, take, ℤ, Some, None, sym, refl, ap, ◌∙◌, zero-le, add-one, arith}
use mathlib.Core.Bool.{beq}
use Rattle.std.specs.List.{slice_get}
use Rattle.std.proofs.lemmas.Bool.{cond_both}
use Rattle.softvalues.specs.Scale.{hard_bit_of}
use Rattle.decoder.specs.Metrics.{contradicts, changes, over}

module _ (f : Bool → ℤ → ℕ) where
  pub over_zero : (bs : List Bool) (vs : List ℤ) → over f (take 0 bs) vs ≡ 0
  unfolding over
  over_zero bs vs = refl

  over_suc : (bs : List Bool) (vs : List ℤ) (i : ℕ) (v : ℤ) → i < length bs → slice_get vs i ≡ Some v → over f (take (suc i) bs) vs ≡ over f (take i bs) vs + f (get_or bs i false) v
  unfolding over
  over_suc [] vs i v lt at_i = absurd (omega arith)
  over_suc (b ∷ bs) [] i v lt at_i = let z : ◌≡◌ {A = ℕ} 0 1 = cc in absurd (omega arith)
  over_suc (b ∷ bs) (u ∷ vs) zero v lt at_i = let same : u ≡ v = cc in let value = ap (f b) same in omega arith
  over_suc (b ∷ bs) (u ∷ vs) (suc i) v lt at_i = let rest = over_suc bs vs i v (omega arith) at_i in omega arith

  over_suc_past : (bs : List Bool) (vs : List ℤ) (i : ℕ) → slice_get vs i ≡ None → over f (take (suc i) bs) vs ≡ over f (take i bs) vs
  unfolding over
  over_suc_past [] vs zero none = refl
  over_suc_past [] vs (suc i) none = refl
  over_suc_past (b ∷ bs) [] zero none = refl
  over_suc_past (b ∷ bs) [] (suc i) none = refl
  over_suc_past (b ∷ bs) (u ∷ vs) zero none = let z : ◌≡◌ {A = ℕ} 0 1 = cc in absurd (omega arith)
  over_suc_past (b ∷ bs) (u ∷ vs) (suc i) none = let rest = over_suc_past bs vs i none in omega arith

  -- a bit with a value at its place
  pub over_more : (bs : List Bool) (vs : List ℤ) (i : ℕ) (v : ℤ) → i < length bs → slice_get vs i ≡ Some v → over f (take (i + 1) bs) vs ≡ over f (take i bs) vs + f (get_or bs i false) v
  over_more bs vs i v lt at_i = rw add-one (over_suc bs vs i v lt at_i)

  -- a bit behind the last value
  pub over_past : (bs : List Bool) (vs : List ℤ) (i : ℕ) → slice_get vs i ≡ None → over f (take (i + 1) bs) vs ≡ over f (take i bs) vs
  over_past bs vs i none = rw add-one (over_suc_past bs vs i none)

-- the test of a bit and a hard bit
pub contradiction : {b x h : Bool} (v : ℤ) → b ≡ x → h ≡ hard_bit_of v → contradicts x v ≡ not (beq b h)
contradiction {b} {x} {h} v bit sign = ap (λ (y : Bool). not (beq y (hard_bit_of v))) (sym bit) ∙ ap (λ (y : Bool). not (beq b y)) (sym sign)

-- a bit counts once at most
pub changes_most : (b : Bool) (v : ℤ) → changes b v ≤ 1
changes_most b v = cond_both (contradicts b v) 1 0 (λ (n : ℕ). n ≤ 1) (λ e. omega arith) (λ e. zero-le)

pub changed_most : (bs : List Bool) (vs : List ℤ) → over changes bs vs ≤ length vs
unfolding over
changed_most [] vs = zero-le
changed_most (b ∷ bs) [] = zero-le
changed_most (b ∷ bs) (v ∷ vs) = let rest = changed_most bs vs in let here = changes_most b v in omega arith
