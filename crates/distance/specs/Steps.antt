-- The edges of the tails map, by what they compare.
use Rattle.std.specs.Prelude.{◌≡◌, ℕ, zero, suc, ◌+◌, ◌-◌, ◌/◌, ◌%◌, ◌<◌, ◌≤◌, ◌&&◌, ltb, List, [], ◌∷◌, ◌++◌, length, Some, None, Option, ◌==◌, ◌≢◌, nat_lt, refl}
use Rattle.std.proofs.Common.{sym, ap, subst, ◌∙◌, ⊎_elim, arith}
use Rattle.std.specs.List.{slice_get}
use Rattle.std.proofs.lemmas.Nat.{div-add-mod', div-mul-add, mod-mul-add}
use Rattle.std.proofs.lemmas.Bool.{cases_lt, cases_Bool, cond-true, cond-false, eqb-true, eqb-false, ne_eqb, ltb-true, lt-ltb, and_parts, and_from}
use Rattle.codetable.specs.declared.word.Codeword.{Codeword}
use Rattle.codetable.specs.Codewords.{most_bits}
use Rattle.codetable.proofs.Stored.{nth_within}
use Rattle.search.specs.Graphs.{Edge, nth as edge_nth}
use Rattle.search.proofs.Ahead.{none_or_some}
use Rattle.distance.specs.Tails.{tails, tail_place, start_place, compared, against, pairs, tail_edges, edges_from}

-- word i without its first c bits is compared with word j: that leads to place q at cost d
pub record Compares (ws : List Codeword) (i c j q d : ℕ) : Type 0 where
  pub a : Codeword
  pub b : Codeword
  pub at_i : slice_get ws i ≡ Some a
  pub at_j : slice_get ws j ≡ Some b
  pub leads : ◌≡◌ {A = ℕ × ℕ} (q, d) (compared i a c j b)

-- an edge from p to q at cost d: from the start two different words are compared, and from a tail it is with any word
pub data Step (ws : List Codeword) : ℕ → ℕ → ℕ → Type 0 where
  first : {i j q d : ℕ} → i < j → Compares ws i 0 j q d → Step ws start_place q d
  later : {i c j q d : ℕ} → 0 < c → (m : Compares ws i c j q d) → c < m.a.len → Step ws (tail_place i c) q d

-- the edge at an index of one row behind another
pub nth_front : (xs ys : List (ℕ × ℕ)) (k : ℕ) → k < length xs → edge_nth (xs ++ ys) k ≡ edge_nth xs k
nth_front [] ys k lt = absurd (omega arith)
nth_front (x ∷ xs) ys zero lt = refl
nth_front (x ∷ xs) ys (suc k) lt = nth_front xs ys k (omega arith)

pub nth_behind : (xs ys : List (ℕ × ℕ)) (k m : ℕ) → m ≡ length xs + k → edge_nth (xs ++ ys) m ≡ edge_nth ys k
nth_behind [] ys k m e = let same : m ≡ k = omega arith in ap (edge_nth ys) same
nth_behind (x ∷ xs) ys k zero e = absurd (omega arith)
nth_behind (x ∷ xs) ys k (suc m) e = nth_behind xs ys k m (omega arith)

pub length-against : (i : ℕ) (a : Codeword) (c j : ℕ) (bs : List Codeword) → length (against i a c j bs) ≡ length bs
unfolding against
length-against i a c j [] = refl
length-against i a c j (b ∷ bs) = ap suc (length-against i a c (suc j) bs)

-- a tail against each word: the edge at index k is that of word j + k
pub against_at : (i : ℕ) (a : Codeword) (c j : ℕ) (bs : List Codeword) (k : ℕ) (b : Codeword) → slice_get bs k ≡ Some b → edge_nth (against i a c j bs) k ≡ Some (compared i a c (j + k) b)
unfolding against
against_at i a c j [] k b e = absurd (cc)
against_at i a c j (x ∷ bs) zero b e =
    let word : x ≡ b = cc in
    let number : j ≡ j + zero = omega arith in
    ap (λ (w : Codeword). Some (compared i a c j w)) word ∙ ap (λ (n : ℕ). Some (compared i a c n b)) number
against_at i a c j (x ∷ bs) (suc k) b e =
    let number : suc j + k ≡ j + suc k = omega arith in
    against_at i a c (suc j) bs k b e ∙ ap (λ (n : ℕ). Some (compared i a c n b)) number

pub against_past : (i : ℕ) (a : Codeword) (c j : ℕ) (bs : List Codeword) (k : ℕ) → slice_get bs k ≡ None → edge_nth (against i a c j bs) k ≡ None
unfolding against
against_past i a c j [] k e = refl
against_past i a c j (x ∷ bs) zero e = absurd (cc)
against_past i a c j (x ∷ bs) (suc k) e = against_past i a c (suc j) bs k e

against_from : (i : ℕ) (a : Codeword) (c j : ℕ) (bs : List Codeword) (k : ℕ) (e : ℕ × ℕ) → edge_nth (against i a c j bs) k ≡ Some e → (b : Codeword) × (slice_get bs k ≡ Some b) × (e ≡ compared i a c (j + k) b)
against_from i a c j bs k e is =
    ⊎_elim
    (λ none. let past = against_past i a c j bs k none in absurd (cc))
    (λ s.
    let there = against_at i a c j bs k s.0 s.1 in
    let same : e ≡ compared i a c (j + k) s.0 = cc in
    (s.0, s.1, same))
    (none_or_some (slice_get bs k))

-- two words of a list with different numbers, which count from i
record Paired (i : ℕ) (ws : List Codeword) (e : ℕ × ℕ) : Type 0 where
  x : ℕ
  y : ℕ
  a : Codeword
  b : Codeword
  order : x < y
  at_x : slice_get ws x ≡ Some a
  at_y : slice_get ws y ≡ Some b
  leads : e ≡ compared (i + x) a 0 (i + y) b

pairs_from : (i : ℕ) (ws : List Codeword) (m : ℕ) (e : ℕ × ℕ) → edge_nth (pairs i ws) m ≡ Some e → Paired i ws e
unfolding pairs
pairs_from i [] m e is = absurd (cc)
pairs_from i (a ∷ ws) m e is =
    let row = against i a 0 (suc i) ws in
    ⊎_elim
    (λ lt.
    let found = against_from i a 0 (suc i) ws m e (sym (nth_front row (pairs (suc i) ws) m lt) ∙ is) in
    let one : i ≡ i + zero = omega arith in
    let other : suc i + m ≡ i + suc m = omega arith in
    record {
      x = zero;
      y = suc m;
      a = a;
      b = found.0;
      order = omega arith;
      at_x = refl;
      at_y = found.1;
      leads = found.2 ∙ ap (λ (n : ℕ). compared n a 0 (suc i + m) found.0) one ∙ ap (λ (n : ℕ). compared (i + zero) a 0 n found.0) other;
    })
    (λ ge.
    let split : m ≡ length row + (m - length row) = omega arith in
    let rest = pairs_from (suc i) ws (m - length row) e (sym (nth_behind row (pairs (suc i) ws) (m - length row) m split) ∙ is) in
    let one : suc i + rest.x ≡ i + suc rest.x = omega arith in
    let other : suc i + rest.y ≡ i + suc rest.y = omega arith in
    record {
      x = suc rest.x;
      y = suc rest.y;
      a = rest.a;
      b = rest.b;
      order = omega (arith, rest.order);
      at_x = rest.at_x;
      at_y = rest.at_y;
      leads = rest.leads ∙ ap (λ (n : ℕ). compared n rest.a 0 (suc i + rest.y) rest.b) one ∙ ap (λ (n : ℕ). compared (i + suc rest.x) rest.a 0 n rest.b) other;
    })
    (cases_lt m (length row))

pairs_at : (i : ℕ) (ws : List Codeword) (x y : ℕ) (a b : Codeword) → x < y → slice_get ws x ≡ Some a → slice_get ws y ≡ Some b → (m : ℕ) × (edge_nth (pairs i ws) m ≡ Some (compared (i + x) a 0 (i + y) b))
unfolding pairs
pairs_at i [] x y a b lt at_x at_y = absurd (cc)
pairs_at i (w ∷ ws) x zero a b lt at_x at_y = absurd (omega arith)
pairs_at i (w ∷ ws) zero (suc y) a b lt at_x at_y =
    let row = against i w 0 (suc i) ws in
    let within = nth_within ws y b at_y in
    let long = length-against i w 0 (suc i) ws in
    let here = against_at i w 0 (suc i) ws y b at_y in
    let word : w ≡ a = cc in
    let one : i ≡ i + zero = omega arith in
    let other : suc i + y ≡ i + suc y = omega arith in
    (y, nth_front row (pairs (suc i) ws) y (omega arith) ∙ here ∙ ap (λ (v : Codeword). Some (compared i v 0 (suc i + y) b)) word ∙ ap (λ (n : ℕ). Some (compared n a 0 (suc i + y) b)) one ∙ ap (λ (n : ℕ). Some (compared (i + zero) a 0 n b)) other)
pairs_at i (w ∷ ws) (suc x) (suc y) a b lt at_x at_y =
    let row = against i w 0 (suc i) ws in
    let rest = pairs_at (suc i) ws x y a b (omega arith) at_x at_y in
    let one : suc i + x ≡ i + suc x = omega arith in
    let other : suc i + y ≡ i + suc y = omega arith in
    (length row + rest.0, nth_behind row (pairs (suc i) ws) rest.0 (length row + rest.0) refl ∙ rest.1 ∙ ap (λ (n : ℕ). Some (compared n a 0 (suc i + y) b)) one ∙ ap (λ (n : ℕ). Some (compared (i + suc x) a 0 n b)) other)

-- the edges of the start, and of any other place
pub from_start : (ws : List Codeword) (p : ℕ) → p ≡ start_place → edges_from ws p ≡ pairs 0 ws
unfolding edges_from
from_start ws p e = ap (edges_from ws) e

pub from_other : (ws : List Codeword) (p : ℕ) → (p ≢ start_place) → edges_from ws p ≡ tail_edges ws (p / most_bits) (p % most_bits) (slice_get ws (p / most_bits))
unfolding edges_from
from_other ws p ne = cond-false (p == start_place) (pairs 0 ws) (tail_edges ws (p / most_bits) (p % most_bits) (slice_get ws (p / most_bits))) (ne_eqb p start_place ne)

tail_step : (ws : List Codeword) (i c k : ℕ) (o : Option Codeword) (q d : ℕ) → slice_get ws i ≡ o → edge_nth (tail_edges ws i c o) k ≡ Some (q, d) → Step ws (tail_place i c) q d
tail_step ws i c k None q d at_i is = absurd (cc)
tail_step ws i c k (Some a) q d at_i is =
    let test = nat_lt 0 c && ltb c a.len in
    ⊎_elim
    (λ t.
    let parts = and_parts (nat_lt 0 c) (nat_lt c a.len) t in
    let row = cond-true test (against i a c 0 ws) [] t in
    let found = against_from i a c 0 ws k (q, d) (ap (λ (es : List (ℕ × ℕ)). edge_nth es k) (sym row) ∙ is) in
    let number : 0 + k ≡ k = omega arith in
    later {j = k} (ltb-true 0 c parts.0) (record { a = a; b = found.0; at_i = at_i; at_j = found.1; leads = found.2 ∙ ap (λ (n : ℕ). compared i a c n found.0) number }) (ltb-true c a.len parts.1))
    (λ f.
    let row = cond-false test (against i a c 0 ws) [] f in
    let none : edge_nth [] k ≡ Some (q, d) = ap (λ (es : List (ℕ × ℕ)). edge_nth es k) (sym row) ∙ is in
    absurd (cc))
    (cases_Bool test)

-- each edge is a step
pub stepped : (ws : List Codeword) (p q d : ℕ) → Edge (tails ws) p q d → Step ws p q d
stepped ws p q d e =
    ⊎_elim
    (λ t.
    let same = eqb-true p start_place t in
    let found = pairs_from 0 ws e.0 (q, d) (ap (λ (es : List (ℕ × ℕ)). edge_nth es e.0) (sym (from_start ws p same)) ∙ e.1) in
    let one : 0 + found.x ≡ found.x = omega arith in
    let other : 0 + found.y ≡ found.y = omega arith in
    subst (λ (n : ℕ). Step ws n q d) (sym same) (first {i = found.x} {j = found.y} found.order (record { a = found.a; b = found.b; at_i = found.at_x; at_j = found.at_y; leads = found.leads ∙ ap (λ (n : ℕ). compared n found.a 0 (0 + found.y) found.b) one ∙ ap (λ (n : ℕ). compared found.x found.a 0 n found.b) other })))
    (λ f.
    let other = from_other ws p (eqb-false p start_place f) in
    let found = tail_step ws (p / most_bits) (p % most_bits) e.0 (slice_get ws (p / most_bits)) q d refl (ap (λ (es : List (ℕ × ℕ)). edge_nth es e.0) (sym other) ∙ e.1) in
    subst (λ (n : ℕ). Step ws n q d) (div-add-mod' p most_bits) found)
    (cases_Bool (p == start_place))

-- and each step is an edge
pub first_edge : (ws : List Codeword) (i j : ℕ) (a b : Codeword) → i < j → slice_get ws i ≡ Some a → slice_get ws j ≡ Some b → Edge (tails ws) start_place (compared i a 0 j b).0 (compared i a 0 j b).1
first_edge ws i j a b lt at_i at_j =
    let found = pairs_at 0 ws i j a b lt at_i at_j in
    let one : 0 + i ≡ i = omega arith in
    let other : 0 + j ≡ j = omega arith in
    (found.0, ap (λ (es : List (ℕ × ℕ)). edge_nth es found.0) (from_start ws start_place refl) ∙ found.1 ∙ ap (λ (n : ℕ). Some (compared n a 0 (0 + j) b)) one ∙ ap (λ (n : ℕ). Some (compared i a 0 n b)) other)

pub later_edge : (ws : List Codeword) (i c j : ℕ) (a b : Codeword) → 0 < c → c < a.len → a.len ≤ most_bits → slice_get ws i ≡ Some a → slice_get ws j ≡ Some b → Edge (tails ws) (tail_place i c) (compared i a c j b).0 (compared i a c j b).1
later_edge ws i c j a b some less most at_i at_j =
    let few : c < most_bits = omega arith in
    let apart : tail_place i c ≡ start_place → ⊥ = λ same.
    let cut = mod-mul-add i most_bits c few in
    let cut0 : tail_place i c % most_bits ≡ 0 = ap (λ (n : ℕ). n % most_bits) same in
    omega arith in
    let row : tail_edges ws (tail_place i c / most_bits) (tail_place i c % most_bits) (slice_get ws (tail_place i c / most_bits)) ≡ tail_edges ws i c (slice_get ws i) =
    ap (λ (n : ℕ). tail_edges ws n (tail_place i c % most_bits) (slice_get ws n)) (div-mul-add i most_bits c few) ∙ ap (λ (n : ℕ). tail_edges ws i n (slice_get ws i)) (mod-mul-add i most_bits c few) in
    let known : tail_edges ws i c (slice_get ws i) ≡ tail_edges ws i c (Some a) = ap (tail_edges ws i c) at_i in
    let test = cond-true (nat_lt 0 c && nat_lt c a.len) (against i a c 0 ws) [] (and_from (nat_lt 0 c) (nat_lt c a.len) (lt-ltb 0 c some) (lt-ltb c a.len less)) in
    let number : 0 + j ≡ j = omega arith in
    (j, ap (λ (es : List (ℕ × ℕ)). edge_nth es j) (from_other ws (tail_place i c) apart ∙ row ∙ known ∙ test) ∙ against_at i a c 0 ws j b at_j ∙ ap (λ (n : ℕ). Some (compared i a c n b)) number)
