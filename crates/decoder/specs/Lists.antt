-- The words of a list, how they are printed, and what is checked before one is changed.
use Rattle.std.specs.Prelude.{ℕ, ◌≤◌, ◌⊎◌, List, [], ◌∷◌, ◌++◌, length, codes, decimal}
use Rattle.std.specs.List.{flat_map}
use Rattle.fixedvec.specs.Items.{items}
use Rattle.refusal.specs.Refusals.{bad_count}
use Rattle.refusal.specs.Checks.{Check}
use Rattle.codetable.specs.Codewords.{most_words}
use Rattle.decoder.specs.declared.list.WordList.{WordList}

-- the numbers of the words, in order
abbrev pub numbers : WordList → List ℕ
numbers l = items l.inner

-- numbers in decimal, with a dot before each but the first
abbrev pub dotted : List ℕ → List ℕ
dotted [] = []
dotted (k ∷ ks) = decimal k ++ flat_map (λ n. codes "." ++ decimal n) ks

-- what is checked before word i gets another number: that the list has a word i, and that a table may have the number
abbrev pub set_checks : List ℕ → ℕ → ℕ → List Check
set_checks ks i k = ((length ks ≤ i) ⊎ (most_words ≤ k), bad_count) ∷ []
