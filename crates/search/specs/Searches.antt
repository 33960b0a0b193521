-- What a search finds, and what it leaves in its queue and in the costs lent to it.
use Rattle.std.specs.Prelude.{◌≡◌, ℕ, suc, ◌+◌, ◌<◌, ◌≤◌, ◌⊎◌, List, [], ◌∷◌, length, Some, None, Option, slice_index}
use Rattle.refusal.specs.Refusals.{short, no_fit}
use Rattle.refusal.specs.Checks.{Check}
use Rattle.refusal.specs.declared.SearchFault.{SearchFault}
use Rattle.refusal.specs.declared.SearchFault.TheVariants.{BadCount, Short, NoFit}
use Rattle.refusal.specs.declared.Refusal.{Refusal}
use Rattle.refusal.specs.declared.Refusal.TheVariants.{Search}
use Rattle.queue.specs.Queues.{Model}
use Rattle.search.specs.declared.Found.{Found}
use Rattle.search.specs.Graphs.{Graph, Edge, Path, LeastCost, NoPath, Limit, unknown}

-- the cost of a place in a list of costs
abbrev pub cost_at : List ℕ → ℕ → ℕ
cost_at costs p = slice_index costs p

-- a number is within the limit; without a limit every number is
abbrev pub Within : Option ℕ → ℕ → Type 0
Within None n = Unit {0}
Within (Some limit) n = n ≤ limit

-- place p is opened, with its least cost c and estimate e: their sum is within the limit
pub record Opened (g : Graph) (limit : Option ℕ) (p c e : ℕ) : Type 0 where
  pub estimate : g.estimate p ≡ Some e
  pub least : LeastCost g p c
  pub within : Within limit (c + e)

-- an opened place has an edge to place p, and its least cost and the edge's cost add up to c
pub record Reached (g : Graph) (limit : Option ℕ) (p c : ℕ) : Type 0 where
  pub from : ℕ
  pub cost : ℕ
  pub estimate : ℕ
  pub opened : Opened g limit from cost estimate
  pub edge_cost : ℕ
  pub edge : Edge g from p edge_cost
  pub sum : c ≡ cost + edge_cost

-- place p waits, with cost c and estimate e: it is not opened, and c is the least at which it is reached
pub record Waiting (g : Graph) (limit : Option ℕ) (p c e : ℕ) : Type 0 where
  pub estimate : g.estimate p ≡ Some e
  pub unopened : (d f : ℕ) → Opened g limit p d f → ⊥
  pub reached : Reached g limit p c
  pub least : (d : ℕ) → Reached g limit p d → c ≤ d

-- the cost and the key of place p after the search: an opened place has its least cost and no key, a waiting place
-- the cost at which it is reached, and as its key the sum of that and the estimate
pub data Outcome (g : Graph) (limit : Option ℕ) (p : ℕ) : ℕ → Option ℕ → Type 0 where
  opened : {c e : ℕ} → Opened g limit p c e → Outcome g limit p c None
  waiting : {c e : ℕ} → Waiting g limit p c e → Outcome g limit p c (Some (c + e))
  neither : ((c e : ℕ) → Opened g limit p c e → ⊥) → ((c e : ℕ) → Waiting g limit p c e → ⊥) → Outcome g limit p unknown None

-- what a search leaves: the queue m becomes q, and the costs become others
pub record Leaves (g : Graph) (limit : Option ℕ) (m q : Model) (before after : List ℕ) : Type 0 where
  -- every place below the graph's size has its cost and its key, or none
  pub places : (p : ℕ) → p < g.size → Outcome g limit p (cost_at after p) (q.key p)
  -- a path within the limit, with the estimate at its end, leads to an opened place
  pub whole : (p c e : ℕ) → Path g p c → g.estimate p ≡ Some e → Within limit (c + e) → (d : ℕ) × Opened g limit p d e
  -- from the graph's size on no place is held and the costs are as before
  pub bare : (p : ℕ) → g.size ≤ p → q.key p ≡ None
  pub rest : (p : ℕ) → g.size ≤ p → cost_at after p ≡ cost_at before p
  pub size : q.size ≡ m.size

-- n of the numbers below a bound have P
pub data Counted (P : ℕ → Type 0) : ℕ → ℕ → Type 0 where
  none : Counted P 0 0
  one : {m n : ℕ} → Counted P m n → P m → Counted P (suc m) (suc n)
  not : {m n : ℕ} → Counted P m n → (P m → ⊥) → Counted P (suc m) n

abbrev pub IsOpened : Graph → Option ℕ → ℕ → Type 0
IsOpened g limit p = (c : ℕ) × (e : ℕ) × Opened g limit p c e

abbrev pub IsWaiting : Graph → Option ℕ → ℕ → Type 0
IsWaiting g limit p = (c : ℕ) × (e : ℕ) × Waiting g limit p c e

-- the answer: the limit, and the numbers of opened and of waiting places
pub record Finds (g : Graph) (found : Found) : Type 0 where
  pub limit : Limit g (Some found.limit)
  pub opened : Counted (IsOpened g (Some found.limit)) g.size found.opened
  pub waiting : Counted (IsWaiting g (Some found.limit)) g.size found.waiting

-- what is checked: the room in the queue and in the costs, and that there is a path to the finish
abbrev pub search_checks : Graph → Model → List ℕ → List Check
search_checks g m costs = ((m.size < g.size) ⊎ (length costs < g.size), short) ∷ (NoPath g, no_fit) ∷ []

-- a refusal of the layer search
abbrev pub by_search : SearchFault → Refusal
by_search f = Search f

-- what holds after a refusal: a search that is short changes nothing, and one without a path leaves what it finds
abbrev pub Refused : SearchFault → Type 0 → Type 0 → Type 0
Refused Short untouched left = untouched
Refused NoFit untouched left = left
Refused BadCount untouched left = ⊥
