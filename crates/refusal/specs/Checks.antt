-- How a call refuses: it has a list of checks, and the first that is due gives the refusal.
use Rattle.std.specs.Prelude.{◌≡◌, ℕ, ◌⊎◌, List, [], ◌∷◌, Ok, Err, Result}
use Rattle.refusal.specs.declared.Refusal.{Refusal}
use Rattle.refusal.specs.Refusals.{number}

-- when a check is due, and the number of its refusal
abbrev pub Check : Type 1
Check = Type 0 × ℕ

-- n is the number of the first check that is due
abbrev pub FirstDue : List Check → ℕ → Type 0
FirstDue [] n = ⊥
FirstDue (c ∷ cs) n = (c.0 × (n ≡ c.1)) ⊎ ((c.0 → ⊥) × FirstDue cs n)

-- no check is due
abbrev pub NoneDue : List Check → Type 0
NoneDue [] = Unit {0}
NoneDue (c ∷ cs) = (c.0 → ⊥) × NoneDue cs

-- The answer of a call under its checks: where none is due it is accepted and `done` holds of its value;
-- else it refuses by the first that is due, and `kept` holds of what it hands back.
-- `up` makes a refusal of what it hands back.
abbrev pub Judged : {X F : Type 0} → List Check → (F → Refusal) → Result X F → (X → Type 0) → (F → Type 0) → Type 0
Judged cs up (Ok x) done kept = NoneDue cs × done x
Judged cs up (Err f) done kept = FirstDue cs (number (up f)) × kept f
