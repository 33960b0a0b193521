-- A linear congruential generator: its states, and the numbers that it gives.
use Rattle.std.specs.Prelude.{ℕ, zero, suc, ◌+◌, ◌*◌, ◌/◌, ◌%◌, ◌^◌}

-- the state of 64 bits that follows one
abbrev pub advanced : ℕ → ℕ
advanced s = (s * 6364136223846793005 + 1442695040888963407) % 2 ^ 64

-- the number of a state: its upper 32 bits
abbrev pub output : ℕ → ℕ
output s = s / 2 ^ 32

-- the remainder of a number by a bound, and 0 at the bound 0
abbrev pub reduced : ℕ → ℕ → ℕ
reduced n zero = 0
reduced n (suc b) = n % suc b
