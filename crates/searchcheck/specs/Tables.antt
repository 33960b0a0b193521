-- Graphs written as tables, and a computed test of the laws of a map.
use Rattle.std.specs.Prelude.{◌≡◌, ℕ, zero, suc, ◌+◌, ◌<◌, ◌≤◌, Bool, true, false, ◌&&◌, leb, List, [], ◌∷◌, length, Some, None, Option, nat_le, nat_lt, slice_index, slice_index_or, refl}
use Rattle.std.proofs.Common.{subst, arith, sym, ◌∙◌}
use Rattle.std.proofs.lemmas.Bool.{and_parts, ltb-true, leb-true, false≢true}
use Rattle.std.proofs.Props.{props}
use Rattle.std.proofs.lemmas.Option.{same_Some}
use mathlib.Core.HLevel.{Σ_prop_path}
use Rattle.search.specs.Graphs.{Graph, Edge, Path, Lawful, unknown, nth, guess, here, on}

-- the edges of each place in a row, the estimates, and numbers that no path to a place costs more than
pub record Table : Type 0 where
  pub size : ℕ
  pub start : ℕ
  pub finish : ℕ
  pub edges : List (List (ℕ × ℕ))
  pub estimates : List (Option ℕ)
  pub most : List ℕ

abbrev pub graph_of : Table → Graph
graph_of t =
    record {
      size = t.size;
      start = t.start;
      finish = t.finish;
      edges = λ p. slice_index_or t.edges p [];
      estimate = λ p. slice_index_or t.estimates p None;
    }

-- the graph with these estimates, one for each place, and these edges
abbrev pub graph_at : ℕ → ℕ → List (Option ℕ) → List (List (ℕ × ℕ)) → Graph
graph_at start finish estimates edges =
    record {
      size = length estimates;
      start = start;
      finish = finish;
      edges = λ p. slice_index_or edges p [];
      estimate = λ p. slice_index_or estimates p None;
    }

-- the estimate at the start of an edge is no more than its cost and the estimate at its end, if there is one
abbrev pub consistent? : Option ℕ → ℕ → Option ℕ → Bool
consistent? o c None = true
consistent? None c (Some f) = false
consistent? (Some e) c (Some f) = nat_le e (c + f)

abbrev pub estimate_at : Table → ℕ → Option ℕ
estimate_at t p = slice_index_or t.estimates p None

abbrev pub most_at : Table → ℕ → ℕ
most_at t p = slice_index t.most p

-- one edge keeps the laws
abbrev pub edge? : Table → ℕ → ℕ → ℕ → Bool
edge? t p q c =
    (nat_lt q t.size && consistent? (estimate_at t p) c (estimate_at t q))
    && (nat_le (most_at t p + c) (most_at t q) && nat_lt (most_at t p + c + guess (estimate_at t q)) unknown)

-- every edge of a place does, and of every place from one on
abbrev pub row? : Table → ℕ → List (ℕ × ℕ) → Bool
row? t p [] = true
row? t p (e ∷ es) = edge? t p e.0 e.1 && row? t p es

abbrev pub rows? : Table → ℕ → List (List (ℕ × ℕ)) → Bool
rows? t p [] = true
rows? t p (r ∷ rs) = row? t p r && rows? t (suc p) rs

at_row : (t : Table) (p : ℕ) (es : List (ℕ × ℕ)) → row? t p es ≡ true → (i q c : ℕ) → nth es i ≡ Some (q, c) → edge? t p q c ≡ true
at_row t p [] ok i q c is = let z : ◌≡◌ {A = ℕ} 0 1 = cc in absurd (omega arith)
at_row t p (e ∷ es) ok zero q c is =
    let both : ◌≡◌ {A = ℕ × ℕ} e (q, c) = cc in
    subst (λ (a : ℕ × ℕ). edge? t p a.0 a.1 ≡ true) both (and_parts (edge? t p e.0 e.1) (row? t p es) ok).0
at_row t p (e ∷ es) ok (suc i) q c is =
    at_row t p es (and_parts (edge? t p e.0 e.1) (row? t p es) ok).1 i q c is

at_rows : (t : Table) (k : ℕ) (rs : List (List (ℕ × ℕ))) → rows? t k rs ≡ true → (p i q c : ℕ) → nth (slice_index_or rs p []) i ≡ Some (q, c) → edge? t (k + p) q c ≡ true
at_rows t k [] ok p i q c is = let z : ◌≡◌ {A = ℕ} 0 1 = cc in absurd (omega arith)
at_rows t k (r ∷ rs) ok zero i q c is =
    let same : k ≡ k + zero = omega arith in
    subst (λ (x : ℕ). edge? t x q c ≡ true) same (at_row t k r (and_parts (row? t k r) (rows? t (suc k) rs) ok).0 i q c is)
at_rows t k (r ∷ rs) ok (suc p) i q c is =
    let same : suc k + p ≡ k + suc p = omega arith in
    subst (λ (x : ℕ). edge? t x q c ≡ true) same (at_rows t (suc k) rs (and_parts (row? t k r) (rows? t (suc k) rs) ok).1 p i q c is)

-- what the test of an edge says of the estimates
has_estimate : (o : Option ℕ) (c f : ℕ) → consistent? o c (Some f) ≡ true → (e : ℕ) × (o ≡ Some e)
has_estimate None c f ok = absurd (false≢true ok)
has_estimate (Some e) c f ok = (e, refl)

is_consistent : (o u : Option ℕ) (c e f : ℕ) → consistent? o c u ≡ true → o ≡ Some e → u ≡ Some f → e ≤ c + f
is_consistent o u c e f ok eo eu =
    let there : consistent? o c (Some f) ≡ true = subst (λ (x : Option ℕ). consistent? o c x ≡ true) eu ok in
    let both : leb e (c + f) ≡ true = subst (λ (x : Option ℕ). consistent? x c (Some f) ≡ true) eo there in
    leb-true e (c + f) both

module _ (t : Table) (ok : rows? t 0 t.edges ≡ true) where
  tested : (p q c : ℕ) → Edge (graph_of t) p q c → edge? t p q c ≡ true
  tested p q c e =
      let same : 0 + p ≡ p = omega arith in
      subst (λ (x : ℕ). edge? t x q c ≡ true) same (at_rows t 0 t.edges ok p e.0 q c e.1)

  first : (p q c : ℕ) → Edge (graph_of t) p q c → (nat_lt q t.size ≡ true) × (consistent? (estimate_at t p) c (estimate_at t q) ≡ true)
  first p q c e =
      and_parts (nat_lt q t.size) (consistent? (estimate_at t p) c (estimate_at t q)) (and_parts (nat_lt q t.size && consistent? (estimate_at t p) c (estimate_at t q)) (nat_le (most_at t p + c) (most_at t q) && nat_lt (most_at t p + c + guess (estimate_at t q)) unknown) (tested p q c e)).0

  second : (p q c : ℕ) → Edge (graph_of t) p q c → (nat_le (most_at t p + c) (most_at t q) ≡ true) × (nat_lt (most_at t p + c + guess (estimate_at t q)) unknown ≡ true)
  second p q c e =
      and_parts (nat_le (most_at t p + c) (most_at t q)) (nat_lt (most_at t p + c + guess (estimate_at t q)) unknown) (and_parts (nat_lt q t.size && consistent? (estimate_at t p) c (estimate_at t q)) (nat_le (most_at t p + c) (most_at t q) && nat_lt (most_at t p + c + guess (estimate_at t q)) unknown) (tested p q c e)).1

  -- no path costs more than the table says
  path_most : {p c : ℕ} → Path (graph_of t) p c → c ≤ most_at t p
  path_most here = omega arith
  path_most (on {p} {q} {c} {d} path edge) =
      let before = path_most path in
      let step = leb-true (most_at t p + d) (most_at t q) (second p q d edge).0 in
      omega arith

  pub table_lawful : t.start < t.size → t.finish < t.size → estimate_at t t.finish ≡ Some 0 → slice_index_or t.edges t.finish [] ≡ [] → Lawful (graph_of t)
  table_lawful start finish nearest ends =
      record {
        start = start;
        finish = finish;
        inside = λ p q c e. ltb-true q t.size (first p q c e).0;
        nearest = nearest;
        ends = ends;
        estimated = λ p q c f e ef.
            has_estimate (estimate_at t p) c f (subst (λ (x : Option ℕ). consistent? (estimate_at t p) c x ≡ true) ef (first p q c e).1);
        consistent = λ p q c e f edge ee ef.
            is_consistent (estimate_at t p) (estimate_at t q) c e f (first p q c edge).1 ee ef;
        bounded = λ p q c d l e.
            let most = path_most l.path in
            let sum = ltb-true (most_at t p + d + guess (estimate_at t q)) unknown (second p q d e).1 in
            omega arith;
      }

-- an estimate is one value at most
estimate_prop : (o : Option ℕ) → IsProp ((e : ℕ) × (o ≡ Some e))
estimate_prop o = λ u v. Σ_prop_path (λ e. hlevel props) (same_Some u.0 v.0 (sym u.1 ∙ v.1))

-- the laws of a map have one proof at most
pub lawful_prop : (g : Graph) → IsProp (Lawful g)
lawful_prop g = hlevel (estimate_prop, props)
