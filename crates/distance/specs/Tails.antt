-- The tails map: a graph whose paths compare two word sequences, of which one is ahead of the other by a tail.
use Rattle.std.specs.Prelude.{ℕ, suc, ◌+◌, ◌-◌, ◌*◌, ◌/◌, ◌%◌, cond, ◌&&◌, List, [], ◌∷◌, ◌++◌, drop, Some, None, Option, ◌==◌, nat_lt}
use Rattle.std.specs.List.{slice_get}
use Rattle.codetable.specs.declared.word.Codeword.{Codeword}
use Rattle.codetable.specs.Codewords.{bits, most_bits, most_words}
use Rattle.search.specs.Graphs.{Graph}
use Rattle.distance.specs.Distances.{hamming}

-- the place of word k without its first c bits
abbrev pub tail_place : ℕ → ℕ → ℕ
tail_place k c = k * most_bits + c

-- a place for each word and each number of bits that it may have lost
abbrev pub place_count : ℕ
place_count = most_words * most_bits

-- words that have lost no bits are no tails, so two of their places are free for the start and the finish
abbrev pub start_place : ℕ
start_place = tail_place 1 0

abbrev pub finish_place : ℕ
finish_place = tail_place 0 0

-- Where a tail of `left` bits, word i without its first c, and word j of n bits lead: to what is left of the longer one,
-- or to the finish.
abbrev pub next_place : ℕ → ℕ → ℕ → ℕ → ℕ → ℕ
next_place i c left j n = cond (nat_lt left n) (tail_place j left) (cond (nat_lt n left) (tail_place i (c + n)) finish_place)

-- word a, number i, without its first c bits is compared with word b, number j, over the shorter one
abbrev pub compared : ℕ → Codeword → ℕ → ℕ → Codeword → ℕ × ℕ
compared i a c j b = (next_place i c (a.len - c) j b.len, hamming (drop c (bits a)) (bits b))

-- a tail is compared with each word of a list, the first of them with number j
unfoldable pub against : ℕ → Codeword → ℕ → ℕ → List Codeword → List (ℕ × ℕ)
against i a c j [] = []
against i a c j (b ∷ bs) = compared i a c j b ∷ against i a c (suc j) bs

-- each pair of words with different numbers is compared, the first word of the list having number i
unfoldable pub pairs : ℕ → List Codeword → List (ℕ × ℕ)
pairs i [] = []
pairs i (a ∷ ws) = against i a 0 (suc i) ws ++ pairs (suc i) ws

-- the edges from word i, if there is one, without its first c bits: none unless that is a tail
abbrev pub tail_edges : List Codeword → ℕ → ℕ → Option Codeword → List (ℕ × ℕ)
tail_edges ws i c None = []
tail_edges ws i c (Some a) = cond (nat_lt 0 c && nat_lt c a.len) (against i a c 0 ws) []

unfoldable pub edges_from : List Codeword → ℕ → List (ℕ × ℕ)
edges_from ws p =
    cond (p == start_place) (pairs 0 ws) (tail_edges ws (p / most_bits) (p % most_bits) (slice_get ws (p / most_bits)))

-- every estimate is 0
abbrev pub tails : List Codeword → Graph
tails ws =
    record {
      size = place_count;
      start = start_place;
      finish = finish_place;
      edges = edges_from ws;
      estimate = λ p. Some 0;
    }
