-- The key of a place, or none.
use Rattle.std.proofs.Common.{◌≡◌, ℕ, Some, None, Option, arith}

-- two keys of one place are equal
pub same_key : (o : Option ℕ) (j k : ℕ) → o ≡ Some j → o ≡ Some k → j ≡ k
same_key o j k e f = cc

-- a place has a key or none, and not both
pub not_both : (o : Option ℕ) (k : ℕ) → o ≡ None → o ≡ Some k → ⊥
not_both o k e f = let z : ◌≡◌ {A = ℕ} 0 1 = cc in omega arith
