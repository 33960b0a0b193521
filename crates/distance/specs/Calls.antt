-- What the paths of the tails map mean, and what the call for the free distance checks.
use Rattle.std.specs.Prelude.{◌≡◌, ℕ, ◌<◌, ◌≤◌, ◌⊎◌, List, [], ◌∷◌, length, drop, Some}
use Rattle.std.specs.List.{slice_get}
use Rattle.refusal.specs.Refusals.{short, no_pair}
use Rattle.refusal.specs.Checks.{Check}
use Rattle.refusal.specs.declared.Refusal.{Refusal}
use Rattle.refusal.specs.declared.Refusal.TheVariants.{Table, Search}
use Rattle.refusal.specs.declared.TableFault.TheVariants.{NoPair}
use Rattle.refusal.specs.declared.SearchFault.TheVariants.{Short}
use Rattle.codetable.specs.declared.word.Codeword.{Codeword}
use Rattle.codetable.specs.Codewords.{bits, most_bits}
use Rattle.codetable.specs.Sequences.{Sequence, joined_bits}
use Rattle.queue.specs.Queues.{Model}
use Rattle.search.specs.Graphs.{Path}
use Rattle.distance.specs.Distances.{distance, Rivals}
use Rattle.distance.specs.Tails.{tails, tail_place, place_count, finish_place}

-- two word sequences begin with different words
pub record Part (ks ls : List ℕ) : Type 0 where
  pub x : ℕ
  pub y : ℕ
  pub xs : List ℕ
  pub ys : List ℕ
  pub one : ks ≡ x ∷ xs
  pub other : ls ≡ y ∷ ys
  pub apart : x ≡ y → ⊥

-- Two word sequences that begin with different words. Word k without its first c bits is what the one has beyond the
-- other, and up to there they are at distance d.
pub record Leading (ws : List Codeword) (k c d : ℕ) : Type 0 where
  pub ahead : List ℕ
  pub behind : List ℕ
  pub one : Sequence ws ahead
  pub other : Sequence ws behind
  pub part : Part ahead behind
  pub word : Codeword
  pub at_k : slice_get ws k ≡ Some word
  pub less : c < word.len
  pub beyond : drop (length (joined_bits ws behind)) (joined_bits ws ahead) ≡ drop c (bits word)
  pub cost : distance ws ahead behind ≡ d

-- The paths of the tails map are pairs of word sequences.
pub record PathsArePairs (ws : List Codeword) : Type 0 where
  -- a path to a tail is two sequences of which one leads by this tail, and its cost is their distance
  pub to_tail : (k c d : ℕ) → 0 < c → c < most_bits → Path (tails ws) (tail_place k c) d → Leading ws k c d
  -- a path to the finish is two different sequences of equal bit length, and its cost is their distance
  pub to_finish : (d : ℕ) → Path (tails ws) finish_place d → (ks : List ℕ) × (ls : List ℕ) × Rivals ws ks ls × (distance ws ks ls ≡ d)
  -- each two such sequences have a path to the finish that costs no more than their distance
  pub from_rivals : (ks ls : List ℕ) → Rivals ws ks ls → (d : ℕ) × Path (tails ws) finish_place d × (d ≤ distance ws ks ls)

-- what is checked, in this order: that there are two words, and the room in the queue and in the costs
abbrev pub distance_checks : List Codeword → Model → List ℕ → List Check
distance_checks ws m costs = (length ws < 2, no_pair) ∷ ((m.size < place_count) ⊎ (length costs < place_count), short) ∷ []

-- the two refusals, with their layers
abbrev pub Refusals : Refusal → Type 0
Refusals f = (f ≡ Table NoPair) ⊎ (f ≡ Search Short)
