-- The edges of the tails map, by their indexes.
use Rattle.std.proofs.Common.{◌≡◌, ℕ, zero, suc, ◌+◌, ◌-◌, ◌*◌, ◌/◌, ◌%◌, ◌<◌, ◌≤◌, ◌&&◌, ltb, List, [], ◌∷◌, ◌++◌, length, drop, Some, None, Option, MatchOption, sym, refl, ap, ◌∙◌, suc-mul, mul-suc, arith, length-append, length-drop}
use Rattle.std.specs.List.{slice_get}
use Rattle.std.proofs.lemmas.List.{drop_all}
use Rattle.std.proofs.lemmas.Bool.{cond-true, and_from, lt-ltb}
use Rattle.codetable.specs.declared.word.Codeword.{Codeword}
use Rattle.codetable.specs.declared.table.CodeTable.{CodeTable}
use Rattle.codetable.specs.Codewords.{most_bits, most_words, Formed}
use Rattle.codetable.specs.Tables.{words}
use Rattle.codetable.proofs.Stored.{nth_within, nth_there, nth_drop, drop_nth}
use Rattle.search.specs.Graphs.{nth as edge_nth}
use Rattle.distance.specs.declared.tails.Tail.{Tail}
use Rattle.distance.specs.Tails.{compared, against, pairs, tail_edges}
use Rattle.distance.specs.Steps.{nth_front, nth_behind, length-against, against_at}
use Rattle.distance.specs.Laws.{sound}
use Rattle.distance.specs.Places.{TailOf, NoTail}

-- what a table says of a word by its number
pub stored_at : (t : CodeTable) {k : ℕ} {w : Codeword} → Some w ≡ slice_get (words t) k → (k < most_words) × Formed w
stored_at t {k} {w} found =
    let s = sound t in
    let below = nth_within (words t) k w (sym found) in
    (omega (arith, s.few), s.formed k w (sym found))

below_square : (n : ℕ) → n * (n - 1) + n ≡ n * n
below_square zero = refl
below_square (suc n) = let back : suc n - 1 ≡ n = omega arith in let product = mul-suc (suc n) n in ap (λ (x : ℕ). suc n * x + suc n) back ∙ sym product

-- n words have half of n times n less 1 pairs
pub twice_pairs : (i : ℕ) (ws : List Codeword) → 2 * length (pairs i ws) ≡ length ws * (length ws - 1)
unfolding pairs
twice_pairs i [] = refl
twice_pairs i (a ∷ ws) =
    let n = length ws in
    let row = length-against i a 0 (suc i) ws in
    let sum = length-append (against i a 0 (suc i) ws) (pairs (suc i) ws) in
    let rest = twice_pairs (suc i) ws in
    let square = below_square n in
    let back : suc n - 1 ≡ n = omega arith in
    let product : suc n * (suc n - 1) ≡ n * n + n = ap (λ (x : ℕ). suc n * x) back ∙ suc-mul n n in
    omega arith

-- the edges of a tail
pub tail_row : (ws : List Codeword) (p : ℕ) (t : Tail) → TailOf ws p t → tail_edges ws (p / most_bits) (p % most_bits) (slice_get ws (p / most_bits)) ≡ against t.number t.word t.cut 0 ws
tail_row ws p t of =
    let number = of.number in
    let cut = of.cut in
    ap (λ (n : ℕ). tail_edges ws n (p % most_bits) (slice_get ws n)) (sym number)
    ∙ ap (λ (n : ℕ). tail_edges ws t.number n (slice_get ws t.number)) (sym cut)
    ∙ ap (tail_edges ws t.number t.cut) of.word
    ∙ cond-true (ltb 0 t.cut && ltb t.cut t.word.len) (against t.number t.word t.cut 0 ws) [] (and_from (ltb 0 t.cut) (ltb t.cut t.word.len) (lt-ltb 0 t.cut of.some) (lt-ltb t.cut t.word.len of.less))

-- how many edges a place has: as many as there are words, or none if it is no tail
pub tail_count : (ws : List Codeword) (p n : ℕ) (o : Option Tail) → MatchOption o (NoTail ws p) (TailOf ws p) → MatchOption o (n ≡ 0) (λ t. n ≡ length ws) → n ≡ length (tail_edges ws (p / most_bits) (p % most_bits) (slice_get ws (p / most_bits)))
tail_count ws p n None lacks e = e ∙ sym (ap length lacks)
tail_count ws p n (Some t) of e = e ∙ sym (ap length (tail_row ws p t of) ∙ length-against t.number t.word t.cut 0 ws)

module _ (ws : List Codeword) (i : ℕ) (lt : i < length ws) (a : Codeword) (at_i : slice_get ws i ≡ Some a) where
  row : List (ℕ × ℕ)
  row = against i a 0 (suc i) (drop (i + 1) ws)

  split : pairs i (drop i ws) ≡ row ++ pairs (suc i) (drop (i + 1) ws)
  unfolding pairs row
  split = ap (pairs i) (drop_nth ws i a at_i)

  long : length row ≡ length ws - 1 - i
  unfolding row
  long = let all = length-against i a 0 (suc i) (drop (i + 1) ws) in let rest = length-drop (i + 1) ws in omega arith

  -- a pair of word i
  pub pair_here : (left : ℕ) → left < length ws - 1 - i → edge_nth (pairs i (drop i ws)) left ≡ edge_nth (against i a 0 0 ws) (i + 1 + left)
  unfolding row
  pair_here left less =
      let l = long in
      let found = nth_there ws (i + 1 + left) (λ ge. omega arith) in
      let number : suc i + left ≡ 0 + (i + 1 + left) = omega arith in
      ap (λ (es : List (ℕ × ℕ)). edge_nth es left) split
      ∙ nth_front row (pairs (suc i) (drop (i + 1) ws)) left (omega arith)
      ∙ against_at i a 0 (suc i) (drop (i + 1) ws) left found.0 (nth_drop ws (i + 1) left ∙ found.1)
      ∙ ap (λ (n : ℕ). Some (compared i a 0 n found.0)) number
      ∙ sym (against_at i a 0 0 ws (i + 1 + left) found.0 found.1)

  -- a pair of the words behind it
  pub pair_behind : (left : ℕ) → length ws - 1 - i ≤ left → edge_nth (pairs i (drop i ws)) left ≡ edge_nth (pairs (i + 1) (drop (i + 1) ws)) (left - (length ws - 1 - i))
  pair_behind left more =
      let l = long in
      let place : left ≡ length row + (left - (length ws - 1 - i)) = omega arith in
      let number : suc i ≡ i + 1 = omega arith in
      ap (λ (es : List (ℕ × ℕ)). edge_nth es left) split
      ∙ nth_behind row (pairs (suc i) (drop (i + 1) ws)) (left - (length ws - 1 - i)) left place
      ∙ ap (λ (n : ℕ). edge_nth (pairs n (drop (i + 1) ws)) (left - (length ws - 1 - i))) number

pub pair_none : (ws : List Codeword) (i left : ℕ) → length ws ≤ i → edge_nth (pairs i (drop i ws)) left ≡ None
unfolding pairs
pair_none ws i left past = ap (λ (rest : List Codeword). edge_nth (pairs i rest) left) (drop_all i ws past)
