-- The tails map of every table keeps the laws of a map.
use Rattle.std.specs.Prelude.{◌≡◌, ℕ, ◌+◌, ◌-◌, ◌<◌, ◌≤◌, Bool, true, false, cond, List, [], ◌∷◌, length, drop, Some, None, Option, nat_lt, refl}
use Rattle.std.proofs.Common.{sym, ap, subst, ◌∙◌, ⊎_elim, zero-le, arith, lit<}
use Rattle.std.specs.List.{slice_get}
use Rattle.std.proofs.lemmas.Bool.{cases_lt, cond-true, cond-false, lt-ltb, le-ltb}
use Rattle.codetable.specs.declared.word.Codeword.{Codeword}
use Rattle.codetable.specs.declared.table.CodeTable.{CodeTable}
use Rattle.codetable.specs.Codewords.{bits, most_bits, most_words, AllFormed}
use Rattle.codetable.specs.Tables.{words}
use Rattle.codetable.proofs.Bits.{length-bits}
use Rattle.codetable.proofs.Stored.{nth_within, few_words}
use Rattle.search.specs.Graphs.{Lawful}
use Rattle.search.proofs.Shortest.{least_most}
use Rattle.distance.specs.Distances.{hamming, differing}
use Rattle.distance.specs.Tails.{tails, tail_place, place_count, finish_place, next_place, tail_edges}
use Rattle.distance.specs.Steps.{Compares, Step, first, later, stepped, from_other}

-- what every list of words of a table keeps
pub record Sound (ws : List Codeword) : Type 0 where
  pub few : length ws ≤ most_words
  pub formed : AllFormed ws

pub sound : (t : CodeTable) → Sound (words t)
sound t = record { few = few_words t; formed = t.formed }

differing_most : (x y : Bool) → differing x y ≤ 1
differing_most false false = omega arith
differing_most false true = omega arith
differing_most true false = omega arith
differing_most true true = omega arith

-- a distance is at most the length of the second row
pub hamming_most : (xs ys : List Bool) → hamming xs ys ≤ length ys
unfolding hamming
hamming_most [] ys = zero-le
hamming_most (x ∷ xs) [] = zero-le
hamming_most (x ∷ xs) (y ∷ ys) = let rest = hamming_most xs ys in let here = differing_most x y in omega arith

-- where a comparison leads, by which of the two is longer
pub data Leads (i c left j n : ℕ) : ℕ → Type 0 where
  word_longer : left < n → Leads i c left j n (tail_place j left)
  tail_longer : n < left → Leads i c left j n (tail_place i (c + n))
  equal : left ≡ n → Leads i c left j n finish_place

pub leads_to : (i c left j n : ℕ) → Leads i c left j n (next_place i c left j n)
leads_to i c left j n =
    ⊎_elim
    (λ lt. subst (Leads i c left j n) (sym (cond-true (nat_lt left n) (tail_place j left) (cond (nat_lt n left) (tail_place i (c + n)) finish_place) (lt-ltb left n lt))) (word_longer lt))
    (λ ge.
    let outer = cond-false (nat_lt left n) (tail_place j left) (cond (nat_lt n left) (tail_place i (c + n)) finish_place) (le-ltb left n ge) in
    ⊎_elim
    (λ lt. subst (Leads i c left j n) (sym (outer ∙ cond-true (nat_lt n left) (tail_place i (c + n)) finish_place (lt-ltb n left lt))) (tail_longer lt))
    (λ le. subst (Leads i c left j n) (sym (outer ∙ cond-false (nat_lt n left) (tail_place i (c + n)) finish_place (le-ltb n left le))) (equal (omega arith)))
    (cases_lt n left))
    (cases_lt left n)

inside_by : (i c len j n r : ℕ) → Leads i c (len - c) j n r → i < most_words → j < most_words → len ≤ most_bits → n ≤ most_bits → c ≤ len → r < place_count
inside_by i c len j n r (word_longer lt) low_i low_j short-a short-b within = omega arith
inside_by i c len j n r (tail_longer lt) low_i low_j short-a short-b within = omega arith
inside_by i c len j n r (equal e) low_i low_j short-a short-b within = lit< tt

ends_there : (ws : List Codeword) (o : Option Codeword) → tail_edges ws 0 0 o ≡ []
ends_there ws None = refl
ends_there ws (Some a) = refl

module _ (ws : List Codeword) (s : Sound ws) where
  -- a comparison leads to a place, and costs no more than a word has bits
  led_inside : {i c j q d : ℕ} (m : Compares ws i c j q d) → c ≤ m.a.len → q < place_count
  led_inside {i} {c} {j} {q} {d} m within =
      let low_i = nth_within ws i m.a m.at_i in
      let low_j = nth_within ws j m.b m.at_j in
      let few = s.few in
      let there = inside_by i c m.a.len j m.b.len (next_place i c (m.a.len - c) j m.b.len) (leads_to i c (m.a.len - c) j m.b.len) (omega arith) (omega arith) (s.formed i m.a m.at_i).1 (s.formed j m.b m.at_j).1 within in
      subst (λ (r : ℕ). r < place_count) (sym (ap (λ (e : ℕ × ℕ). e.0) m.leads)) there

  costs_few : {i c j q d : ℕ} → Compares ws i c j q d → d ≤ most_bits
  costs_few {i} {c} {j} {q} {d} m =
      let cost : d ≡ hamming (drop c (bits m.a)) (bits m.b) = ap (λ (e : ℕ × ℕ). e.1) m.leads in
      let most = hamming_most (drop c (bits m.a)) (bits m.b) in
      let long = length-bits m.b.len m.b.value in
      let short = (s.formed j m.b m.at_j).1 in
      omega arith

  step_inside : {p q d : ℕ} → Step ws p q d → q < place_count
  step_inside (first lt m) = led_inside m zero-le
  step_inside (later some m less) = led_inside m (omega arith)

  step_costs : {p q d : ℕ} → Step ws p q d → d ≤ most_bits
  step_costs (first lt m) = costs_few m
  step_costs (later some m less) = costs_few m

  pub tails_lawful : Lawful (tails ws)
  tails_lawful =
      record {
        start = lit< tt;
        finish = lit< tt;
        inside = λ p q c e. step_inside (stepped ws p q c e);
        nearest = refl;
        ends = from_other ws finish_place (λ same. omega arith) ∙ ends_there ws (slice_get ws 0);
        estimated = λ p q c f e ef. (0, refl);
        consistent = λ p q c e f edge ee ef. let none : 0 ≡ e = cc in omega arith;
        bounded = λ p q c d least e.
            let most = least_most (tails ws) most_bits (λ p q c e. step_inside (stepped ws p q c e)) (λ p q c e. step_costs (stepped ws p q c e)) p c least in
            let cost = step_costs (stepped ws p q d e) in
            omega arith;
      }
