-- The words of a table, and what each call on it checks and does.
use Rattle.std.specs.Prelude.{◌≡◌, ℕ, ◌<◌, ◌≤◌, ◌⊎◌, List, [], ◌∷◌, length}
use Rattle.fixedvec.specs.Items.{items}
use Rattle.refusal.specs.Refusals.{bad_length, stray_bits, full, clash, no_word}
use Rattle.refusal.specs.Checks.{Check}
use Rattle.codetable.specs.declared.word.Codeword.{Codeword}
use Rattle.codetable.specs.declared.table.CodeTable.{CodeTable}
use Rattle.codetable.specs.Codewords.{largest, most_bits, most_words, Clashes}

-- the words of a table, by their numbers from 0
abbrev pub words : CodeTable → List Codeword
words t = items t.inner

-- a word as it is entered: it has no weight yet
abbrev pub entered : ℕ → ℕ → Codeword
entered n v = record { len = n; value = v; weight = 0 }

-- what is checked before a word of n bits with value v is added, in this order
abbrev pub word_checks : List Codeword → ℕ → ℕ → List Check
word_checks ws n v =
    ((n < 1) ⊎ (most_bits < n), bad_length) ∷ (largest n < v, stray_bits) ∷ (most_words ≤ length ws, full) ∷ (Clashes ws (entered n v), clash) ∷ []

-- what is checked before word k is weighed
abbrev pub weigh_checks : List Codeword → ℕ → List Check
weigh_checks ws k = (length ws ≤ k, no_word) ∷ []

-- what is checked before the last word is dropped
abbrev pub drop_checks : List Codeword → List Check
drop_checks ws = (length ws ≡ 0, no_word) ∷ []
