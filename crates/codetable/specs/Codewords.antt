-- Codewords, their bits, and lists of them in which no word is the start of another.
use Rattle.std.specs.Prelude.{◌≡◌, ℕ, zero, suc, ◌+◌, ◌*◌, ◌/◌, ◌%◌, ◌^◌, ◌≤◌, Bool, ◌⊎◌, List, [], ◌∷◌, ◌++◌, Some, ◌==◌}
use Rattle.std.specs.List.{slice_get}
use Rattle.codetable.specs.declared.word.Codeword.{Codeword}

-- The n bits of a value, the highest first; a one is true.
unfoldable pub bits_of : ℕ → ℕ → List Bool
bits_of zero v = []
bits_of (suc n) v = (v / 2 ^ n % 2 == 1) ∷ bits_of n v

abbrev pub bits : Codeword → List Bool
bits w = bits_of w.len w.value

-- The largest value of a word of n bits: 1 for one bit, and then each twice the last plus 1.
unfoldable pub largest : ℕ → ℕ
largest zero = 0
largest (suc n) = 2 * largest n + 1

-- the most bits of a word, and the most words of a table
abbrev pub most_bits : ℕ
most_bits = 24

abbrev pub most_words : ℕ
most_words = 32

-- the largest weight of a word
abbrev pub most_weight : ℕ
most_weight = 65535

-- a word as it may stand in a table
abbrev pub Formed : Codeword → Type 0
Formed w = (1 ≤ w.len) × (w.len ≤ most_bits) × (w.value ≤ largest w.len)

abbrev pub AllFormed : List Codeword → Type 0
AllFormed ws = (k : ℕ) (w : Codeword) → slice_get ws k ≡ Some w → Formed w

-- no word has more than the largest weight
abbrev pub AllWeighed : List Codeword → Type 0
AllWeighed ws = (k : ℕ) (w : Codeword) → slice_get ws k ≡ Some w → w.weight ≤ most_weight

-- b begins with a: it is a, and then some more bits or none
abbrev pub Prefix : List Bool → List Bool → Type 0
Prefix a b = (rest : List Bool) × (b ≡ a ++ rest)

-- two different places of a list whose words clash: the one begins with the other, or is its equal
pub record Clash (ws : List Codeword) : Type 0 where
  pub i : ℕ
  pub j : ℕ
  pub a : Codeword
  pub b : Codeword
  pub apart : i ≡ j → ⊥
  pub at_i : slice_get ws i ≡ Some a
  pub at_j : slice_get ws j ≡ Some b
  pub start : Prefix (bits a) (bits b)

-- the list with another weight at word k
abbrev pub reweighed : List Codeword → ℕ → ℕ → List Codeword
reweighed [] k x = []
reweighed (w ∷ ws) zero x = record { len = w.len; value = w.value; weight = x } ∷ ws
reweighed (w ∷ ws) (suc k) x = w ∷ reweighed ws k x

-- one of two words is the start of the other, or they are equal
abbrev pub Conflict : Codeword → Codeword → Type 0
Conflict a b = Prefix (bits a) (bits b) ⊎ Prefix (bits b) (bits a)

-- w conflicts with a word of the list
abbrev pub Clashes : List Codeword → Codeword → Type 0
Clashes ws w = (k : ℕ) × (a : Codeword) × (slice_get ws k ≡ Some a) × Conflict a w
