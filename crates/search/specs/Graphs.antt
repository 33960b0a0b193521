-- Graphs with estimates: paths from the start, their costs, and the laws of a map.
use Rattle.std.specs.Prelude.{◌≡◌, ℕ, zero, suc, ◌+◌, ◌<◌, ◌≤◌, List, [], ◌∷◌, Some, None, Option}

-- the number that stands for no cost
abbrev pub unknown : ℕ
unknown = 4294967295

-- places from 0 to the size less 1; the edges of each, with the place that each leads to and its cost; and the
-- estimate of each, or none
pub record Graph : Type 0 where
  pub size : ℕ
  pub start : ℕ
  pub finish : ℕ
  pub edges : ℕ → List (ℕ × ℕ)
  pub estimate : ℕ → Option ℕ

-- the item at an index of a list, or none past its end
abbrev pub nth : List (ℕ × ℕ) → ℕ → Option (ℕ × ℕ)
nth [] i = None
nth (e ∷ es) zero = Some e
nth (e ∷ es) (suc i) = nth es i

-- place p has an edge to place q at cost c
abbrev pub Edge : Graph → ℕ → ℕ → ℕ → Type 0
Edge g p q c = (i : ℕ) × (nth (g.edges p) i ≡ Some (q, c))

-- a path from the start to a place, and its cost: the sum of its edges' costs
pub data Path (g : Graph) : ℕ → ℕ → Type 0 where
  here : Path g g.start 0
  on : {p q c d : ℕ} → Path g p c → Edge g p q d → Path g q (c + d)

-- c is the least cost of a path to place p
pub record LeastCost (g : Graph) (p c : ℕ) : Type 0 where
  pub path : Path g p c
  pub least : (d : ℕ) → Path g p d → c ≤ d

-- no path leads to the finish
abbrev pub NoPath : Graph → Type 0
NoPath g = (c : ℕ) → Path g g.finish c → ⊥

-- the limit: the least cost of a path to the finish, or none if there is no path
abbrev pub Limit : Graph → Option ℕ → Type 0
Limit g None = NoPath g
Limit g (Some c) = LeastCost g g.finish c

-- an estimate as a number, 0 for none
abbrev pub guess : Option ℕ → ℕ
guess None = 0
guess (Some e) = e

-- the laws of a map
pub record Lawful (g : Graph) : Type 0 where
  -- start and finish are places
  pub start : g.start < g.size
  pub finish : g.finish < g.size
  -- an edge leads to a place
  pub inside : (p q c : ℕ) → Edge g p q c → q < g.size
  -- the finish has estimate 0 and no edges
  pub nearest : g.estimate g.finish ≡ Some 0
  pub ends : g.edges g.finish ≡ []
  -- a place with an edge to one that has an estimate has one itself
  pub estimated : (p q c f : ℕ) → Edge g p q c → g.estimate q ≡ Some f → (e : ℕ) × (g.estimate p ≡ Some e)
  -- an edge's cost and the estimate there are together no less than the estimate here
  pub consistent : (p q c e f : ℕ) → Edge g p q c → g.estimate p ≡ Some e → g.estimate q ≡ Some f → e ≤ c + f
  -- the least cost of a place, the cost of an edge from it and the estimate there add up to less than the unknown
  pub bounded : (p q c d : ℕ) → LeastCost g p c → Edge g p q d → c + d + guess (g.estimate q) < unknown
