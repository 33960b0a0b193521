-- The free distance of a table.
use Rattle.std.specs.Prelude.{◌≡◌, ℕ, ◌+◌, ◌≤◌, Bool, true, false, List, [], ◌∷◌, length}
use Rattle.codetable.specs.declared.word.Codeword.{Codeword}
use Rattle.codetable.specs.Sequences.{Sequence, joined_bits}

-- one for two bits that differ
abbrev pub differing : Bool → Bool → ℕ
differing false false = 0
differing false true = 1
differing true false = 1
differing true true = 0

-- the Hamming distance: at how many places the bits differ, as far as both rows go
unfoldable pub hamming : List Bool → List Bool → ℕ
hamming [] ys = 0
hamming (x ∷ xs) [] = 0
hamming (x ∷ xs) (y ∷ ys) = differing x y + hamming xs ys

-- the distance of two word sequences
abbrev pub distance : List Codeword → List ℕ → List ℕ → ℕ
distance ws ks ls = hamming (joined_bits ws ks) (joined_bits ws ls)

-- two different word sequences of equal bit length; their numbers of words may differ
pub record Rivals (ws : List Codeword) (ks ls : List ℕ) : Type 0 where
  pub one : Sequence ws ks
  pub other : Sequence ws ls
  pub different : ks ≡ ls → ⊥
  pub equally_long : length (joined_bits ws ks) ≡ length (joined_bits ws ls)

-- d is the free distance: the least distance of two different word sequences of equal bit length
pub record FreeDistance (ws : List Codeword) (d : ℕ) : Type 0 where
  pub attained : (ks : List ℕ) × (ls : List ℕ) × Rivals ws ks ls × (distance ws ks ls ≡ d)
  pub least : (ks ls : List ℕ) → Rivals ws ks ls → d ≤ distance ws ks ls
