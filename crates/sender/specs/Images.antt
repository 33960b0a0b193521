-- The file words of a table.
use Rattle.std.specs.Prelude.{ℕ, ◌+◌, cond, List, [], ◌∷◌, ◌++◌, ◌==◌}
use Rattle.codetable.specs.declared.word.Codeword.{Codeword}
use Rattle.transfer.specs.Format.{word_word_of, weigh_word_of}

-- those that enter word k: WORD, and then WEIGH where it has a weight
abbrev pub entry_words : ℕ → Codeword → List ℕ
entry_words k w = word_word_of w.len w.value ∷ cond (w.weight == 0) [] (weigh_word_of k w.weight ∷ [])

-- those that enter a list of words, the first of them with number k
abbrev pub table_words : ℕ → List Codeword → List ℕ
table_words k [] = []
table_words k (w ∷ ws) = entry_words k w ++ table_words (k + 1) ws
