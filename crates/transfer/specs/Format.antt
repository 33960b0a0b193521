-- The words of a file: 32 bits each, the highest byte first. The top three bits are the kind, by which each is named.
use Rattle.std.specs.Prelude.{ℕ, ◌+◌, ◌-◌, ◌*◌, ◌/◌, ◌%◌, ◌^◌, Bool, true, false, List, [], ◌∷◌}
use Rattle.std.specs.List.{flat_map}

-- the word of a kind, with what its other 29 bits hold
abbrev pub of_kind : ℕ → ℕ → ℕ
of_kind kind rest = kind * 2 ^ 29 + rest

-- the end of a file
abbrev pub end_word : ℕ
end_word = of_kind 0 0

-- a codeword of n bits with value v
abbrev pub word_word_of : ℕ → ℕ → ℕ
word_word_of n v = of_kind 1 (n * 2 ^ 24 + v)

-- the weight x of codeword k
abbrev pub weigh_word_of : ℕ → ℕ → ℕ
weigh_word_of k x = of_kind 2 (k * 2 ^ 24 + x)

-- how strongly a bit is sent: +64 for a zero, −64 for a one, each in the 8 bits of two's complement
abbrev pub soft_byte : Bool → ℕ
soft_byte false = 64
soft_byte true = 2 ^ 8 - 64

-- a soft value that carries one bit
abbrev pub bit_word : Bool → ℕ
bit_word b = of_kind 4 (soft_byte b)

-- the order to load n codewords
abbrev pub load_word : ℕ → ℕ
load_word n = of_kind 6 n

-- the four bytes of a word
abbrev pub word_bytes : ℕ → List ℕ
word_bytes w = (w / 16777216 % 256) ∷ (w / 65536 % 256) ∷ (w / 256 % 256) ∷ (w % 256) ∷ []

abbrev pub bytes_of : List ℕ → List ℕ
bytes_of ws = flat_map word_bytes ws
