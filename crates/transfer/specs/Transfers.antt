-- What a transfer carries.
use Rattle.std.specs.Prelude.{ℕ, ◌+◌, ◌*◌, Bool, List, [], ◌∷◌, ◌++◌, map, length, take, drop}
use Rattle.std.specs.List.{flat_map}
use Rattle.codetable.specs.declared.word.Codeword.{Codeword}
use Rattle.codetable.specs.Codewords.{bits}
use Rattle.transfer.specs.Format.{bit_word, load_word, end_word, bytes_of}

-- the most steps and the most bits of a transfer, and the words that close it
abbrev pub most_steps : ℕ
most_steps = 32

abbrev pub most_sent_bits : ℕ
most_sent_bits = 255

abbrev pub closing : ℕ
closing = 2

-- the bits of the chosen words, joined in order
abbrev pub sent_bits : List Codeword → List Bool
sent_bits ws = flat_map bits ws

-- the file words of a whole transfer: a BIT for each bit, LOAD with the number of steps, END
abbrev pub transfer_words : List Codeword → List ℕ
transfer_words ws = map bit_word (sent_bits ws) ++ load_word (length ws) ∷ end_word ∷ []

-- a buffer with file words written at a place, counted in words
abbrev pub written : List ℕ → ℕ → List ℕ → List ℕ
written buffer at ws = take (4 * at) buffer ++ (bytes_of ws ++ drop (4 * (at + length ws)) buffer)
