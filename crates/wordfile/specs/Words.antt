-- The words that bytes hold: four bytes each, the highest first.
use Rattle.std.specs.Prelude.{ℕ, ◌+◌, ◌*◌, ◌^◌, cond, List, [], ◌∷◌, length, Some, None, Option, nat_le, slice_index}

-- the word of four bytes
abbrev pub of_bytes : ℕ → ℕ → ℕ → ℕ → ℕ
of_bytes a b c d = a * 2 ^ 24 + b * 2 ^ 16 + c * 2 ^ 8 + d

-- the word at a place, or none if the bytes stop before its end
abbrev pub word_in : List ℕ → ℕ → Option ℕ
word_in bs k =
    cond (nat_le (4 * k + 4) (length bs))
    (Some (of_bytes (slice_index bs (4 * k)) (slice_index bs (4 * k + 1)) (slice_index bs (4 * k + 2)) (slice_index bs (4 * k + 3))))
    None

-- the words of a file, in order; bytes at its end that are fewer than four are none
abbrev pub words : List ℕ → List ℕ
words [] = []
words (a ∷ []) = []
words (a ∷ b ∷ []) = []
words (a ∷ b ∷ c ∷ []) = []
words (a ∷ b ∷ c ∷ d ∷ bs) = of_bytes a b c d ∷ words bs
