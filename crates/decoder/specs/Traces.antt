-- How a list is read back from the costs that a search left.
use Rattle.std.specs.Prelude.{◌≡◌, ℕ, ◌+◌, ◌<◌, List, drop, ℤ, Some}
use Rattle.std.specs.List.{slice_get}
use Rattle.codetable.specs.declared.word.Codeword.{Codeword}
use Rattle.queue.specs.Queues.{Model}
use Rattle.search.specs.Graphs.{LeastCost}
use Rattle.search.specs.Searches.{Leaves, cost_at}
use Rattle.decoder.specs.Estimates.{share}
use Rattle.decoder.specs.Trellis.{trellis_place, trellis}

-- a search of the trellis found a path, and left these costs
pub record Searched (ws : List Codeword) (vs : List ℤ) (word_count : ℕ) (costs : List ℕ) : Type 0 where
  pub limit : ℕ
  pub m : Model
  pub q : Model
  pub before : List ℕ
  pub leaves : Leaves (trellis ws vs word_count) (Some limit) m q before costs
  pub least : LeastCost (trellis ws vs word_count) (trellis ws vs word_count).finish limit

-- by the costs, the word w leads from i words and b bits to the place behind it
abbrev pub ComesLast : List ℤ → List ℕ → ℕ → ℕ → Codeword → Type 0
ComesLast vs costs i b w = cost_at costs (trellis_place i b) + share w (drop b vs) ≡ cost_at costs (trellis_place (i + 1) (b + w.len))

-- the word w comes last at i + 1 words and j bits
abbrev pub EndsAt : List ℤ → List ℕ → ℕ → ℕ → Codeword → Type 0
EndsAt vs costs i j w = (b : ℕ) × (j ≡ b + w.len) × ComesLast vs costs i b w

-- no word with a number below n comes last at i + 1 words and j bits
abbrev pub NoneLast : List Codeword → List ℤ → List ℕ → ℕ → ℕ → ℕ → Type 0
NoneLast ws vs costs i j n = (k : ℕ) (w : Codeword) (b : ℕ) → k < n → slice_get ws k ≡ Some w → j ≡ b + w.len → ComesLast vs costs i b w → ⊥

-- the word with the lowest number that comes last at i + 1 words and j bits
pub record LowestLast (ws : List Codeword) (vs : List ℤ) (costs : List ℕ) (i j : ℕ) (found : ℕ × Codeword) : Type 0 where
  pub there : slice_get ws found.0 ≡ Some found.1
  pub b : ℕ
  pub bits : j ≡ b + found.1.len
  pub last : ComesLast vs costs i b found.1
  pub lowest : NoneLast ws vs costs i j found.0
