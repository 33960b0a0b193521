-- The estimates: the least metric of any number of words that fill the rest of what was received.
use Rattle.std.specs.Prelude.{◌≡◌, ℕ, ◌+◌, ◌-◌, ◌<◌, ◌≤◌, ◌==◌, if◌then◌else◌, min, List, [], ◌∷◌, length, drop, ℤ, Some, None, Option, slice_index, slice_index_or}
use Rattle.codetable.specs.declared.word.Codeword.{Codeword}
use Rattle.codetable.specs.Codewords.{bits}
use Rattle.codetable.specs.Sequences.{Sequence, joined_bits}
use Rattle.search.specs.Graphs.{unknown}
use Rattle.decoder.specs.Metrics.{penalty, over, metric}

-- any number of words, also none, that fill the values exactly
pub record Fills (ws : List Codeword) (vs : List ℤ) (ks : List ℕ) : Type 0 where
  pub words : Sequence ws ks
  pub bits : length (joined_bits ws ks) ≡ length vs

-- e is the least metric of words that fill the values
pub record LeastFill (ws : List Codeword) (vs : List ℤ) (e : ℕ) : Type 0 where
  pub attained : (ks : List ℕ) × Fills ws vs ks × (metric ws vs ks ≡ e)
  pub least : (ks : List ℕ) → Fills ws vs ks → e ≤ metric ws vs ks

-- an estimate of the values: the least metric of words that fill them, or none if no words do
abbrev pub IsEstimate : List Codeword → List ℤ → Option ℕ → Type 0
IsEstimate ws vs None = (ks : List ℕ) → Fills ws vs ks → ⊥
IsEstimate ws vs (Some e) = LeastFill ws vs e

-- a word's share of the metric, laid on the values from their first on
abbrev pub share : Codeword → List ℤ → ℕ
share w vs = over penalty (bits w) vs + w.weight

-- an estimate of what is left, with the share of the word before it
abbrev pub extended : ℕ → Option ℕ → Option ℕ
extended n None = None
extended n (Some e) = Some (n + e)

-- the lesser of two estimates
abbrev pub lesser : Option ℕ → Option ℕ → Option ℕ
lesser None b = b
lesser (Some a) None = Some a
lesser (Some a) (Some b) = Some (min a b)

-- the least over the words that may come first; the estimates are those from one value on
unfoldable pub first_words : List Codeword → List ℤ → List (Option ℕ) → Option ℕ
first_words [] vs es = None
first_words (w ∷ ws) vs es = lesser (extended (share w vs) (slice_index_or es (w.len - 1) None)) (first_words ws vs es)

-- the estimates of the values from each place on, to that of no values
unfoldable pub estimates : List Codeword → List ℤ → List (Option ℕ)
estimates ws [] = Some 0 ∷ []
estimates ws (v ∷ vs) = first_words ws (v ∷ vs) (estimates ws vs) ∷ estimates ws vs

-- the estimate at bit j: none past the last value
abbrev pub estimate : List Codeword → List ℤ → ℕ → Option ℕ
estimate ws vs j = slice_index_or (estimates ws vs) j None

-- each estimate is the least metric of words that fill the bits after it
abbrev pub EstimatesAreLeast : List Codeword → List ℤ → Type 0
EstimatesAreLeast ws vs = (j : ℕ) → j ≤ length vs → IsEstimate ws (drop j vs) (estimate ws vs j)

-- an estimate as it stands in memory
abbrev pub written : Option ℕ → ℕ
written None = unknown
written (Some e) = e

-- the estimate that a number in memory stands for
abbrev pub read : ℕ → Option ℕ
read n = if n == unknown then None else Some n

-- the memory holds the estimates from bit j on
abbrev pub HoldsFrom : List Codeword → List ℤ → ℕ → List ℕ → Type 0
HoldsFrom ws vs j ahead = (i : ℕ) → j ≤ i → i ≤ length vs → slice_index ahead i ≡ written (estimate ws vs i)

-- the memory holds the estimates of all bits, and behind them what it had before
pub record Ahead (ws : List Codeword) (vs : List ℤ) (before after : List ℕ) : Type 0 where
  pub filled : (j : ℕ) → j ≤ length vs → slice_index after j ≡ written (estimate ws vs j)
  pub rest : (j : ℕ) → length vs < j → slice_index after j ≡ slice_index before j
