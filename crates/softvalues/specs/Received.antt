-- The values of a received sequence, and what is checked before one is added.
use Rattle.std.specs.Prelude.{◌≤◌, List, [], ◌∷◌, ◌++◌, map, length, ℤ}
use Rattle.fixedvec.specs.Items.{items}
use Rattle.refusal.specs.Refusals.{full}
use Rattle.refusal.specs.Checks.{Check}
use Rattle.softvalues.specs.declared.received.SoftValues.{SoftValues}
use Rattle.softvalues.specs.Scale.{scale_checks}
use Rattle.softvalues.specs.Stored.{most_values}

-- the values of a sequence, by their places from 0
abbrev pub values : SoftValues → List ℤ
values s = map (λ v. v.value) (items s.inner)

-- what is checked before a value is added, in this order
abbrev pub value_checks : List ℤ → ℤ → List Check
value_checks vs v = scale_checks v ++ (most_values ≤ length vs, full) ∷ []
