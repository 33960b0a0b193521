-- Word sequences of a table, by the numbers of their words, and the bits that they make.
use Rattle.std.specs.Prelude.{ℕ, ◌<◌, Bool, List, [], length}
use Rattle.std.specs.List.{slice_get, AllByRecursion, flat_map}
use Rattle.std.specs.Option.{option_map, unwrap_or}
use Rattle.codetable.specs.declared.word.Codeword.{Codeword}
use Rattle.codetable.specs.Codewords.{bits}

-- the bits of word k of a list, none if there is no such word
abbrev pub bits_at : List Codeword → ℕ → List Bool
bits_at ws k = unwrap_or (option_map bits (slice_get ws k)) []

-- a word sequence: each of its numbers is that of a word
abbrev pub Sequence : List Codeword → List ℕ → Type 0
Sequence ws ks = AllByRecursion (λ (k : ℕ). k < length ws) ks

-- the bits of a word sequence, joined in order
abbrev pub joined_bits : List Codeword → List ℕ → List Bool
joined_bits ws ks = flat_map (bits_at ws) ks
