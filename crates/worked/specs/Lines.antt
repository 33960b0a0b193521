-- The examples.
use Rattle.std.specs.Prelude.{ℕ, ◌+◌, List, [], ◌∷◌, length, ℤ, pos, negsuc, Some, None}
use Rattle.std.specs.List.{AllByRecursion}
use Rattle.codetable.specs.declared.word.Codeword.{Codeword}
use Rattle.codetable.specs.Tables.{entered}
use Rattle.worked.specs.Cases.{Decoding, Spread, Entry, weighed, Holds, Spreads, Lone, Refused}

-- the words 00, 010 and 0110
abbrev pub three_words : List Codeword
three_words = entered 2 0 ∷ entered 3 2 ∷ entered 4 6 ∷ []

-- the same with weight 2 on the second
abbrev pub one_weighed : List Codeword
one_weighed = entered 2 0 ∷ weighed 3 2 2 ∷ entered 4 6 ∷ []

-- the words 000 and 111
abbrev pub far_words : List Codeword
far_words = entered 3 0 ∷ entered 3 7 ∷ []

-- the words 0 and 10
abbrev pub near_words : List Codeword
near_words = entered 1 0 ∷ entered 2 2 ∷ []

-- 3 −1 −2 4 −5 6
abbrev pub six_values : List ℤ
six_values = pos 3 ∷ negsuc 0 ∷ negsuc 1 ∷ pos 4 ∷ negsuc 4 ∷ pos 6 ∷ []

abbrev pub six_zeros : List ℤ
six_zeros = pos 0 ∷ pos 0 ∷ pos 0 ∷ pos 0 ∷ pos 0 ∷ pos 0 ∷ []

-- 4 −4 4 −4 −4 −4
abbrev pub six_fours : List ℤ
six_fours = pos 4 ∷ negsuc 3 ∷ pos 4 ∷ negsuc 3 ∷ negsuc 3 ∷ negsuc 3 ∷ []

abbrev pub decodings : List Decoding
decodings =
    record { table = three_words; values = six_values; word_count = 2; expected = Some (record { its_metric = 2; its_changed = 1; opened = 3; waiting = 2; list = 1 ∷ 1 ∷ [] }) }
    ∷ record { table = three_words; values = six_values; word_count = 3; expected = Some (record { its_metric = 8; its_changed = 3; opened = 7; waiting = 0; list = 0 ∷ 0 ∷ 0 ∷ [] }) }
    ∷ record { table = three_words; values = six_values; word_count = 1; expected = None }
    ∷ record { table = three_words; values = six_values; word_count = 4; expected = None }
    ∷ record { table = one_weighed; values = six_values; word_count = 2; expected = Some (record { its_metric = 5; its_changed = 1; opened = 3; waiting = 2; list = 2 ∷ 0 ∷ [] }) }
    ∷ record { table = three_words; values = six_zeros; word_count = 2; expected = Some (record { its_metric = 0; its_changed = 2; opened = 6; waiting = 0; list = 2 ∷ 0 ∷ [] }) }
    ∷ record { table = far_words; values = six_fours; word_count = 2; expected = Some (record { its_metric = 4; its_changed = 1; opened = 3; waiting = 0; list = 0 ∷ 1 ∷ [] }) }
    ∷ []

abbrev pub distances : List Spread
distances =
    record { table = three_words; free = 2 }
    ∷ record { table = far_words; free = 3 }
    ∷ record { table = near_words; free = 1 }
    ∷ []

-- the word 00
abbrev pub lone_words : List Codeword
lone_words = entered 2 0 ∷ []

-- 010 behind 01, and 01 behind 010
abbrev pub clashes : List Entry
clashes =
    record { there = entered 2 1; bits = 3; value = 2 }
    ∷ record { there = entered 3 2; bits = 2; value = 1 }
    ∷ []

abbrev pub case_count : ℕ
case_count = length decodings + length distances + length lone_words + length clashes

-- every example holds
pub record WorkedLines : Type 0 where
  pub decoded : AllByRecursion Holds decodings
  pub spread : AllByRecursion Spreads distances
  pub lone : AllByRecursion Lone lone_words
  pub refused : AllByRecursion Refused clashes
