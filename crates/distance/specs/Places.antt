-- The tails of a table, by their places.
use Rattle.std.specs.Prelude.{◌≡◌, ℕ, ◌/◌, ◌%◌, ◌<◌, List, [], Some}
use Rattle.std.specs.List.{slice_get}
use Rattle.codetable.specs.declared.word.Codeword.{Codeword}
use Rattle.codetable.specs.Codewords.{most_bits}
use Rattle.distance.specs.declared.tails.Tail.{Tail}
use Rattle.distance.specs.Tails.{tail_edges}

-- the tail that a place stands for: a word of the table, without some of its bits but not all
pub record TailOf (ws : List Codeword) (place : ℕ) (t : Tail) : Type 0 where
  pub number : t.number ≡ place / most_bits
  pub cut : t.cut ≡ place % most_bits
  pub word : slice_get ws t.number ≡ Some t.word
  pub some : 0 < t.cut
  pub less : t.cut < t.word.len

-- a place that is no tail has no edges
abbrev pub NoTail : List Codeword → ℕ → Type 0
NoTail ws place = tail_edges ws (place / most_bits) (place % most_bits) (slice_get ws (place / most_bits)) ≡ []
