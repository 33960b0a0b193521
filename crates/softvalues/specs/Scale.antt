-- What a soft value stands for, and the scale that it is on.
use Rattle.std.specs.Prelude.{ℕ, ◌≤◌, Bool, true, false, List, [], ◌∷◌, ℤ, pos, negsuc, unsigned_abs}
use Rattle.refusal.specs.Refusals.{off_scale}
use Rattle.refusal.specs.Checks.{Check}

-- a negative value stands for a one, any other for a zero
abbrev pub hard_bit_of : ℤ → Bool
hard_bit_of (pos n) = false
hard_bit_of (negsuc n) = true

-- the value without its sign
abbrev pub magnitude : ℤ → ℕ
magnitude v = unsigned_abs v

abbrev pub most_magnitude : ℕ
most_magnitude = 127

abbrev pub OnScale : ℤ → Type 0
OnScale v = magnitude v ≤ most_magnitude

-- what is checked before a number is taken for a soft value
abbrev pub scale_checks : ℤ → List Check
scale_checks v = (OnScale v → ⊥, off_scale) ∷ []
