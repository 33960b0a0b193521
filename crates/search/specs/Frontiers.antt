-- A search on its way: which places are opened so far, and what holds of their costs and of the keys in the queue.
use Rattle.std.specs.Prelude.{◌≡◌, ℕ, ◌+◌, ◌<◌, ◌≤◌, cond, ◌⊎◌, List, length, Some, None, Option, nat_lt, slice_set}
use Rattle.queue.specs.Queues.{Model, Sets, Least, Offered}
use Rattle.search.specs.Graphs.{Graph, Edge, Path, LeastCost, unknown, guess, nth}
use Rattle.search.specs.Searches.{cost_at}

-- place p is opened so far: its cost is known, and the queue does not hold it
pub record Done (g : Graph) (costs : List ℕ) (q : Model) (p : ℕ) : Type 0 where
  pub below : p < g.size
  pub known : cost_at costs p < unknown
  pub free : q.key p ≡ None

-- an opened place has an edge to place p at which its cost was found
pub record CostFrom (g : Graph) (costs : List ℕ) (q : Model) (p : ℕ) : Type 0 where
  pub from : ℕ
  pub done : Done g costs q from
  pub edge_cost : ℕ
  pub edge : Edge g from p edge_cost
  pub sum : cost_at costs p ≡ cost_at costs from + edge_cost

-- between two edges: no opened place has a key above the level, and no waiting place one below it
pub record Frontier (g : Graph) (costs : List ℕ) (q : Model) (level : ℕ) : Type 0 where
  pub room : g.size ≤ q.size
  pub long : g.size ≤ length costs
  pub bare : (p : ℕ) → g.size ≤ p → q.key p ≡ None
  pub most : (p : ℕ) → p < g.size → cost_at costs p ≤ unknown
  -- a known cost is that of a path, and the place has an estimate
  pub paths : (p : ℕ) → p < g.size → cost_at costs p < unknown → Path g p (cost_at costs p)
  pub estimates : (p : ℕ) → p < g.size → cost_at costs p < unknown → (e : ℕ) × (g.estimate p ≡ Some e)
  -- a place in the queue has a known cost, and its key adds the estimate
  pub known : (p k : ℕ) → q.key p ≡ Some k → cost_at costs p < unknown
  pub fits : (p k : ℕ) → q.key p ≡ Some k → k ≤ unknown
  pub keys : (p k e : ℕ) → q.key p ≡ Some k → g.estimate p ≡ Some e → k ≡ cost_at costs p + e
  pub origin : (p k : ℕ) → q.key p ≡ Some k → (p ≡ g.start) ⊎ CostFrom g costs q p
  -- an opened place has its least cost
  pub least : (p : ℕ) → Done g costs q p → LeastCost g p (cost_at costs p)
  pub begun : (e : ℕ) → g.estimate g.start ≡ Some e → cost_at costs g.start ≡ 0
  pub low : (p e : ℕ) → Done g costs q p → g.estimate p ≡ Some e → cost_at costs p + e ≤ level
  pub high : (p k : ℕ) → q.key p ≡ Some k → level ≤ k
  pub finish : level ≤ cost_at costs g.finish

-- every edge of an opened place is relaxed: the place it leads to costs no more than by this edge
abbrev pub Relaxed : Graph → List ℕ → Model → Type 0
Relaxed g costs q = (p t d e : ℕ) → Done g costs q p → Edge g p t d → g.estimate t ≡ Some e → cost_at costs t ≤ cost_at costs p + d

-- the same, but that of one place only the first n edges are relaxed
abbrev pub RelaxedTo : Graph → List ℕ → Model → ℕ → ℕ → Type 0
RelaxedTo g costs q place n = (p i t d e : ℕ) → Done g costs q p → nth (g.edges p) i ≡ Some (t, d) → (p ≡ place → i < n) → g.estimate t ≡ Some e → cost_at costs t ≤ cost_at costs p + d

-- a place's key: the sum of its cost and its estimate
abbrev pub key_at : Graph → List ℕ → ℕ → ℕ
key_at g costs p = cost_at costs p + guess (g.estimate p)

-- the first n edges of a place are relaxed, the place being the last that was opened
pub record Relaxing (g : Graph) (costs : List ℕ) (q : Model) (place n : ℕ) : Type 0 where
  pub frontier : Frontier g costs q (key_at g costs place)
  pub done : Done g costs q place
  pub relaxed : RelaxedTo g costs q place n

-- between two places
pub record Searching (g : Graph) (costs : List ℕ) (q : Model) : Type 0 where
  pub level : ℕ
  pub frontier : Frontier g costs q level
  pub relaxed : Relaxed g costs q

-- a known cost of a place that the queue does not hold
abbrev pub settled_at : Option ℕ → ℕ → Option ℕ
settled_at None c = cond (nat_lt c unknown) (Some c) None
settled_at (Some k) c = None

-- the cost of a place that is opened so far
abbrev pub settled : List ℕ → Model → ℕ → Option ℕ
settled costs q p = settled_at (q.key p) (cost_at costs p)

-- no place is opened so far
abbrev pub NoneOpened : Graph → List ℕ → Model → Type 0
NoneOpened g costs q = (p : ℕ) → p < g.size → settled costs q p ≡ None

-- all that lies beyond the graph stays: the queue's size, and the costs of what is no place
pub record KeepsBeyond (g : Graph) (costs after : List ℕ) (m q : Model) : Type 0 where
  pub size : q.size ≡ m.size
  pub rest : (p : ℕ) → g.size ≤ p → cost_at after p ≡ cost_at costs p

-- what relaxing keeps: the opened places with their costs, and all that lies beyond the graph
pub record Keeps (g : Graph) (costs after : List ℕ) (m q : Model) : Type 0 where
  pub beyond : KeepsBeyond g costs after m q
  pub opened : (p : ℕ) → p < g.size → settled after q p ≡ settled costs m p

-- a cost is lowered and the place offered, if the new cost is less
pub record Lowers (costs after : List ℕ) (m q : Model) (place cost estimate : ℕ) : Type 0 where
  pub less : cost < cost_at costs place → (after ≡ slice_set costs place cost) × Offered m q place (cost + estimate)
  pub stays : cost_at costs place ≤ cost → (after ≡ costs) × (q ≡ m)

-- a queue holds no key that is within a bound
abbrev pub NoneWithin : Model → ℕ → Type 0
NoneWithin q bound = (p k : ℕ) → q.key p ≡ Some k → bound < k

-- the place with the least key is taken, and that key is within a bound
pub record Takes (m q : Model) (bound place : ℕ) : Type 0 where
  pub key : ℕ
  pub least : Least m key place
  pub within : key ≤ bound
  pub sets : Sets m q place None

-- nothing is taken, as no key is within a bound
pub record TakesNone (m q : Model) (bound : ℕ) : Type 0 where
  pub same : q ≡ m
  pub none : NoneWithin q bound

-- what is taken from a queue while the least key is within a bound
abbrev pub TakesWithin : Model → Model → ℕ → Option ℕ → Type 0
TakesWithin m q bound None = TakesNone m q bound
TakesWithin m q bound (Some place) = Takes m q bound place

-- the first n costs are unknown, and the others as before
pub record Clears (before after : List ℕ) (n : ℕ) : Type 0 where
  pub blank : (p : ℕ) → p < n → cost_at after p ≡ unknown
  pub rest : (p : ℕ) → n ≤ p → cost_at after p ≡ cost_at before p
