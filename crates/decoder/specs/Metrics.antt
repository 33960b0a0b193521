-- Lists of words that fit, how far each is from what was received, and the best of them.
use Rattle.std.specs.Prelude.{◌≡◌, ℕ, ◌+◌, ◌*◌, ◌<◌, ◌≤◌, Bool, cond, not, ◌⊎◌, List, [], ◌∷◌, ◌++◌, length, ℤ, Some, ◌≢◌}
use Rattle.std.specs.Bool.{beq}
use Rattle.std.specs.List.{slice_get}
use Rattle.std.specs.Option.{option_map, unwrap_or}
use Rattle.codetable.specs.declared.word.Codeword.{Codeword}
use Rattle.codetable.specs.Sequences.{Sequence, joined_bits}
use Rattle.softvalues.specs.declared.scale.SoftValue.{SoftValue}
use Rattle.softvalues.specs.Scale.{hard_bit_of, magnitude}
use Rattle.distance.specs.Distances.{FreeDistance}

-- the most words of a list
abbrev pub most_list : ℕ
most_list = 32

-- a list of words fits if it has so many words, and their joined bits are so many
pub record Fits (ws : List Codeword) (bit_count word_count : ℕ) (ks : List ℕ) : Type 0 where
  pub words : Sequence ws ks
  pub count : length ks ≡ word_count
  pub bits : length (joined_bits ws ks) ≡ bit_count

-- a bit is contradicted if it differs from the hard bit of the value at its place
abbrev pub contradicts : Bool → ℤ → Bool
contradicts b v = not (beq b (hard_bit_of v))

-- a number of the value that contradicts a bit, and 0 where none does
abbrev pub if_contradicted : (ℤ → ℕ) → Bool → ℤ → ℕ
if_contradicted g b v = cond (contradicts b v) (g v) 0

-- what a bit adds to the metric: the magnitude of the value that contradicts it
abbrev pub penalty : Bool → ℤ → ℕ
penalty = if_contradicted magnitude

-- one for a bit that counts as changed
abbrev pub changes : Bool → ℤ → ℕ
changes = if_contradicted (λ _. 1)

-- what a call gives for a soft value is g of its number
abbrev pub Computes : (SoftValue → ℕ → Type 0) → (ℤ → ℕ) → Type 0
Computes gives g = (v : SoftValue) (r : ℕ) → gives v r → r ≡ g v.value

-- the sum of a number for each bit and the value at its place, as far as both rows go
unfoldable pub over : (Bool → ℤ → ℕ) → List Bool → List ℤ → ℕ
over f [] vs = 0
over f (b ∷ bs) [] = 0
over f (b ∷ bs) (v ∷ vs) = f b v + over f bs vs

-- the magnitudes that a list of words contradicts, together
abbrev pub contradicted : List Codeword → List ℤ → List ℕ → ℕ
contradicted ws vs ks = over penalty (joined_bits ws ks) vs

-- the weight of word k
abbrev pub weight_at : List Codeword → ℕ → ℕ
weight_at ws k = unwrap_or (option_map (λ (w : Codeword). w.weight) (slice_get ws k)) 0

-- the weights of all words of a list, counted at each use
unfoldable pub weights : List Codeword → List ℕ → ℕ
weights ws [] = 0
weights ws (k ∷ ks) = weight_at ws k + weights ws ks

-- the metric: the magnitudes that are contradicted, and the weights
abbrev pub metric : List Codeword → List ℤ → List ℕ → ℕ
metric ws vs ks = contradicted ws vs ks + weights ws ks

-- how many bits of a list count as changed
abbrev pub changed : List Codeword → List ℤ → List ℕ → ℕ
changed ws vs ks = over changes (joined_bits ws ks) vs

-- ks has the lower number at the last place where the two lists differ
pub record LowerLast (ks ls : List ℕ) : Type 0 where
  pub before : List ℕ
  pub before' : List ℕ
  pub x : ℕ
  pub y : ℕ
  pub behind : List ℕ
  pub one : ks ≡ before ++ x ∷ behind
  pub other : ls ≡ before' ++ y ∷ behind
  pub lower : x < y

-- ks is better than ls: it has the lesser metric, or among equal ones the lower number at the last difference
abbrev pub Better : List Codeword → List ℤ → List ℕ → List ℕ → Type 0
Better ws vs ks ls = (metric ws vs ks < metric ws vs ls) ⊎ ((metric ws vs ks ≡ metric ws vs ls) × LowerLast ks ls)

-- ks is the best list of so many words and bits: it fits, and is better than every other list that fits
pub record Best (ws : List Codeword) (vs : List ℤ) (bit_count word_count : ℕ) (ks : List ℕ) : Type 0 where
  pub fits : Fits ws bit_count word_count ks
  pub best : (ls : List ℕ) → Fits ws bit_count word_count ls → (ls ≢ ks) → Better ws vs ks ls

-- no list fits
abbrev pub NoneFits : List Codeword → ℕ → ℕ → Type 0
NoneFits ws bit_count word_count = (ks : List ℕ) → Fits ws bit_count word_count ks → ⊥

-- The correction guarantee: ks is the list that was sent if the table has two words or more, all of one weight, every
-- magnitude is at least m, and twice the magnitudes that the sent list contradicts are less than m times the free distance.
abbrev pub Corrects : List Codeword → List ℤ → ℕ → List ℕ → Type 0
Corrects ws vs word_count ks =
    (sent : List ℕ) (weight m d : ℕ) → Fits ws (length vs) word_count sent → 2 ≤ length ws → ((k : ℕ) (w : Codeword) → slice_get ws k ≡ Some w → w.weight ≡ weight) → ((i : ℕ) (v : ℤ) → slice_get vs i ≡ Some v → m ≤ magnitude v) → FreeDistance ws d → 2 * contradicted ws vs sent < m * d → ks ≡ sent
