-- The trellis map: a graph whose paths are lists of words laid on what was received.
use Rattle.std.specs.Prelude.{◌≡◌, ℕ, ◌+◌, ◌*◌, ◌/◌, ◌%◌, ◌≤◌, Bool, cond, List, [], ◌∷◌, length, drop, ℤ, nat_le, nat_lt}
use Rattle.codetable.specs.declared.word.Codeword.{Codeword}
use Rattle.search.specs.Graphs.{Graph, Path}
use Rattle.decoder.specs.Metrics.{Fits, metric}
use Rattle.decoder.specs.Estimates.{share, estimate}

-- one more than the most bits
abbrev pub columns : ℕ
columns = 256

-- the place of i words and j bits so far
abbrev pub trellis_place : ℕ → ℕ → ℕ
trellis_place i j = i * columns + j

-- the word w, laid behind j bits, ends within the values
abbrev pub fits_behind : List ℤ → ℕ → Codeword → Bool
fits_behind vs j w = nat_le (j + w.len) (length vs)

-- the edges for the words of a list, from i words and j bits: none for a word that passes the last bit
unfoldable pub row : List Codeword → List ℤ → ℕ → ℕ → List (ℕ × ℕ)
row [] vs i j = []
row (w ∷ ws) vs i j =
    cond (nat_le (j + w.len) (length vs)) ((trellis_place (i + 1) (j + w.len), share w (drop j vs)) ∷ row ws vs i j) (row ws vs i j)

-- none once there are all words
unfoldable pub edges_from : List Codeword → List ℤ → ℕ → ℕ → List (ℕ × ℕ)
edges_from ws vs word_count p = cond (nat_lt (p / columns) word_count) (row ws vs (p / columns) (p % columns)) []

abbrev pub trellis : List Codeword → List ℤ → ℕ → Graph
trellis ws vs word_count =
    record {
      size = trellis_place word_count (length vs) + 1;
      start = trellis_place 0 0;
      finish = trellis_place word_count (length vs);
      edges = edges_from ws vs word_count;
      estimate = λ p. estimate ws vs (p % columns);
    }

-- The paths of the trellis map are lists of words, and their costs the metrics.
pub record PathsAreLists (ws : List Codeword) (vs : List ℤ) (word_count : ℕ) : Type 0 where
  pub to_list : (i j c : ℕ) → i ≤ word_count → j ≤ length vs → Path (trellis ws vs word_count) (trellis_place i j) c → (ks : List ℕ) × Fits ws j i ks × (metric ws vs ks ≡ c)
  pub from_list : (i j : ℕ) (ks : List ℕ) → i ≤ word_count → j ≤ length vs → Fits ws j i ks → Path (trellis ws vs word_count) (trellis_place i j) (metric ws vs ks)
