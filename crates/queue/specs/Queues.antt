-- What a queue means, and what each call on it answers and leaves.
use Rattle.std.specs.Prelude.{◌≡◌, ℕ, zero, suc, ◌+◌, ◌≤◌, min, List, [], ◌∷◌, Some, None, Option, ◌≢◌}
use Rattle.refusal.specs.Refusals.{short}
use Rattle.refusal.specs.Checks.{Check}
use Rattle.refusal.specs.declared.QueueFault.{QueueFault}
use Rattle.refusal.specs.declared.Refusal.{Refusal}
use Rattle.refusal.specs.declared.Refusal.TheVariants.{Queue}

-- a queue: places from 0 to its size less 1, and the key of each that is held
pub record Model : Type 0 where
  pub size : ℕ
  pub key : ℕ → Option ℕ

-- the size of each queue of this crate
abbrev pub places : ℕ
places = 8448

-- no place is held from the size on
abbrev pub Bounded : Model → Type 0
Bounded m = (p : ℕ) → m.size ≤ p → m.key p ≡ None

-- one for a place that is held
abbrev pub one : Option ℕ → ℕ
one None = 0
one (Some k) = 1

-- how many of the first n places are held
unfoldable pub tally : (ℕ → Option ℕ) → ℕ → ℕ
tally key zero = 0
tally key (suc n) = tally key n + one (key n)

-- how many places are held
abbrev pub held_count : Model → ℕ
held_count m = tally m.key m.size

-- no place is held
abbrev pub Bare : Model → Type 0
Bare m = (p : ℕ) → m.key p ≡ None

-- the same size, and the same places held with the same keys
pub record Same (m n : Model) : Type 0 where
  pub size : n.size ≡ m.size
  pub keys : (p : ℕ) → n.key p ≡ m.key p

-- m becomes n: the one place has what is given, held with a key or not, and all others stay
pub record Sets (m n : Model) (place : ℕ) (given : Option ℕ) : Type 0 where
  pub size : n.size ≡ m.size
  pub here : n.key place ≡ given
  pub others : (p : ℕ) → (p ≢ place) → n.key p ≡ m.key p

-- m becomes n, which holds nothing
pub record Emptied (m n : Model) : Type 0 where
  pub size : n.size ≡ m.size
  pub bare : Bare n

-- the key that a place has after an offer: the one offered, or the smaller of that and the one it had
abbrev pub lesser : Option ℕ → ℕ → ℕ
lesser None key = key
lesser (Some had) key = min had key

-- what is checked before a place is offered
abbrev pub offer_checks : Model → ℕ → List Check
offer_checks m place = (m.size ≤ place, short) ∷ []

-- a refusal of the layer queue
abbrev pub by_queue : QueueFault → Refusal
by_queue f = Queue f

-- m becomes n by an offer
abbrev pub Offered : Model → Model → ℕ → ℕ → Type 0
Offered m n place key = Sets m n place (Some (lesser (m.key place) key))

-- the least key that is held, at the lowest place that has it
pub record Least (m : Model) (key place : ℕ) : Type 0 where
  pub here : m.key place ≡ Some key
  pub least : (p k : ℕ) → m.key p ≡ Some k → key ≤ k
  pub lowest : (p : ℕ) → m.key p ≡ Some key → place ≤ p

-- a look: none if no place is held, else the least key and its place
abbrev pub Looked : Model → Option (ℕ × ℕ) → Type 0
Looked m None = Bare m
Looked m (Some a) = Least m a.0 a.1

-- a take: m becomes n, in which the place that was answered is held no more
abbrev pub Taken : Model → Model → Option (ℕ × ℕ) → Type 0
Taken m n None = Same m n
Taken m n (Some a) = Sets m n a.1 None
