-- The values of a received sequence: how many there may be, and that each is on the scale.
use Rattle.std.specs.Prelude.{◌≡◌, ℕ, List, ℤ, Some}
use Rattle.std.specs.List.{slice_get}
use Rattle.softvalues.specs.Scale.{OnScale}

-- the most values of a sequence
abbrev pub most_values : ℕ
most_values = 255

abbrev pub AllOnScale : List ℤ → Type 0
AllOnScale vs = (k : ℕ) (v : ℤ) → slice_get vs k ≡ Some v → OnScale v
