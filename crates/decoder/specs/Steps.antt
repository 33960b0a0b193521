-- The edges of the trellis map, by the words that they add.
use Rattle.std.specs.Prelude.{◌≡◌, ℕ, zero, suc, ◌+◌, ◌/◌, ◌%◌, ◌<◌, ◌≤◌, leb, List, [], ◌∷◌, length, drop, ℤ, Some, nat_le, nat_lt, refl}
use Rattle.std.proofs.Common.{sym, ap, subst, ◌∙◌, ⊎_elim, arith}
use Rattle.std.specs.List.{slice_get}
use Rattle.std.proofs.lemmas.Nat.{div-mul-add, mod-mul-add}
use Rattle.std.proofs.lemmas.Bool.{cases_Bool, cases_lt, cond-true, cond-false, lt-ltb, le-ltb, leb-true, le-leb}
use Rattle.codetable.specs.declared.word.Codeword.{Codeword}
use Rattle.search.specs.Graphs.{Edge, nth as edge_nth}
use Rattle.decoder.specs.Estimates.{share}
use Rattle.decoder.specs.Trellis.{columns, trellis_place, row, edges_from, trellis}

-- a word is laid on the values behind i words and j bits: that leads to place q at cost d
pub record Lays (ws : List Codeword) (vs : List ℤ) (i j q d : ℕ) : Type 0 where
  pub k : ℕ
  pub w : Codeword
  pub at_k : slice_get ws k ≡ Some w
  pub within : j + w.len ≤ length vs
  pub leads : q ≡ trellis_place (i + 1) (j + w.len)
  pub costs : d ≡ share w (drop j vs)

-- the first edge of a row, or a later one
front : (ws : List Codeword) (w : Codeword) (vs : List ℤ) (i j q d : ℕ) (es : List (ℕ × ℕ)) → j + w.len ≤ length vs → ((n : ℕ) → edge_nth es n ≡ Some (q, d) → Lays (w ∷ ws) vs i j q d) → (m : ℕ) → edge_nth ((trellis_place (i + 1) (j + w.len), share w (drop j vs)) ∷ es) m ≡ Some (q, d) → Lays (w ∷ ws) vs i j q d
front ws w vs i j q d es within later zero is =
    let same : ◌≡◌ {A = ℕ × ℕ} (q, d) (trellis_place (i + 1) (j + w.len), share w (drop j vs)) = cc in
    record { k = zero; w = w; at_k = refl; within = within; leads = ap (λ (e : ℕ × ℕ). e.0) same; costs = ap (λ (e : ℕ × ℕ). e.1) same }
front ws w vs i j q d es within later (suc m) is = later m is

row_from : (ws : List Codeword) (vs : List ℤ) (i j m q d : ℕ) → edge_nth (row ws vs i j) m ≡ Some (q, d) → Lays ws vs i j q d
unfolding row
row_from [] vs i j m q d is = let z : ◌≡◌ {A = ℕ} 0 1 = cc in absurd (omega arith)
row_from (w ∷ ws) vs i j m q d is =
    let test = leb (j + w.len) (length vs) in
    let edge : ℕ × ℕ = (trellis_place (i + 1) (j + w.len), share w (drop j vs)) in
    let later : (n : ℕ) → edge_nth (row ws vs i j) n ≡ Some (q, d) → Lays (w ∷ ws) vs i j q d = λ n e.
    let r = row_from ws vs i j n q d e in
    record { k = suc r.k; w = r.w; at_k = r.at_k; within = r.within; leads = r.leads; costs = r.costs } in
    ⊎_elim
    (λ t. front ws w vs i j q d (row ws vs i j) (leb-true (j + w.len) (length vs) t) later m (ap (λ (es : List (ℕ × ℕ)). edge_nth es m) (sym (cond-true test (edge ∷ row ws vs i j) (row ws vs i j) t)) ∙ is))
    (λ f. later m (ap (λ (es : List (ℕ × ℕ)). edge_nth es m) (sym (cond-false test (edge ∷ row ws vs i j) (row ws vs i j) f)) ∙ is))
    (cases_Bool test)

pub row_at : (ws : List Codeword) (vs : List ℤ) (i j k : ℕ) (w : Codeword) → slice_get ws k ≡ Some w → j + w.len ≤ length vs → (m : ℕ) × (edge_nth (row ws vs i j) m ≡ Some (trellis_place (i + 1) (j + w.len), share w (drop j vs)))
unfolding row
row_at [] vs i j k w at_k within = let z : ◌≡◌ {A = ℕ} 0 1 = cc in absurd (omega arith)
row_at (x ∷ ws) vs i j zero w at_k within =
    let word : x ≡ w = cc in
    let fits : j + x.len ≤ length vs = subst (λ (y : Codeword). j + y.len ≤ length vs) (sym word) within in
    let taken = cond-true (nat_le (j + x.len) (length vs)) ((trellis_place (i + 1) (j + x.len), share x (drop j vs)) ∷ row ws vs i j) (row ws vs i j) (le-leb (j + x.len) (length vs) fits) in
    (zero, ap (λ (es : List (ℕ × ℕ)). edge_nth es zero) taken ∙ ap (λ (y : Codeword). Some (trellis_place (i + 1) (j + y.len), share y (drop j vs))) word)
row_at (x ∷ ws) vs i j (suc k) w at_k within =
    let rest = row_at ws vs i j k w at_k within in
    let test = leb (j + x.len) (length vs) in
    let edges : List (ℕ × ℕ) = (trellis_place (i + 1) (j + x.len), share x (drop j vs)) ∷ row ws vs i j in
    ⊎_elim
    (λ t. (suc rest.0, ap (λ (es : List (ℕ × ℕ)). edge_nth es (suc rest.0)) (cond-true test edges (row ws vs i j) t) ∙ rest.1))
    (λ f. (rest.0, ap (λ (es : List (ℕ × ℕ)). edge_nth es rest.0) (cond-false test edges (row ws vs i j) f) ∙ rest.1))
    (cases_Bool test)

-- the edges of a place before the last stage, and none from there on
pub edges_within : (ws : List Codeword) (vs : List ℤ) (word_count p : ℕ) → p / columns < word_count → edges_from ws vs word_count p ≡ row ws vs (p / columns) (p % columns)
unfolding edges_from
edges_within ws vs word_count p less = cond-true (nat_lt (p / columns) word_count) (row ws vs (p / columns) (p % columns)) [] (lt-ltb (p / columns) word_count less)

pub edges_past : (ws : List Codeword) (vs : List ℤ) (word_count p : ℕ) → word_count ≤ p / columns → edges_from ws vs word_count p ≡ []
unfolding edges_from
edges_past ws vs word_count p past = cond-false (nat_lt (p / columns) word_count) (row ws vs (p / columns) (p % columns)) [] (le-ltb (p / columns) word_count past)

-- each edge lays a word
pub stepped : (ws : List Codeword) (vs : List ℤ) (word_count p q d : ℕ) → Edge (trellis ws vs word_count) p q d → (p / columns < word_count) × Lays ws vs (p / columns) (p % columns) q d
stepped ws vs word_count p q d e =
    ⊎_elim
    (λ less. (less, row_from ws vs (p / columns) (p % columns) e.0 q d (ap (λ (es : List (ℕ × ℕ)). edge_nth es e.0) (sym (edges_within ws vs word_count p less)) ∙ e.1)))
    (λ past.
    let none : edge_nth [] e.0 ≡ Some (q, d) = ap (λ (es : List (ℕ × ℕ)). edge_nth es e.0) (sym (edges_past ws vs word_count p past)) ∙ e.1 in
    let z : ◌≡◌ {A = ℕ} 0 1 = cc in
    absurd (omega arith))
    (cases_lt (p / columns) word_count)

-- the edges of a place by its words and bits
pub edges_at : (ws : List Codeword) (vs : List ℤ) (word_count i j : ℕ) → i < word_count → j < columns → edges_from ws vs word_count (trellis_place i j) ≡ row ws vs i j
edges_at ws vs word_count i j more few =
    let words = div-mul-add i columns j few in
    let bits = mod-mul-add i columns j few in
    edges_within ws vs word_count (trellis_place i j) (omega arith) ∙ ap (λ (n : ℕ). row ws vs n (trellis_place i j % columns)) words ∙ ap (row ws vs i) bits

-- and each word that fits there has an edge
pub edge_at : (ws : List Codeword) (vs : List ℤ) (word_count i j k : ℕ) (w : Codeword) → i < word_count → j < columns → slice_get ws k ≡ Some w → j + w.len ≤ length vs → Edge (trellis ws vs word_count) (trellis_place i j) (trellis_place (i + 1) (j + w.len)) (share w (drop j vs))
edge_at ws vs word_count i j k w more few at_k within =
    let found = row_at ws vs i j k w at_k within in
    (found.0, ap (λ (es : List (ℕ × ℕ)). edge_nth es found.0) (edges_at ws vs word_count i j more few) ∙ found.1)
