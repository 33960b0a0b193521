-- A free distance by two word sequences at that distance, and numbers that no path to a place costs less than.
use Rattle.std.proofs.Common.{◌≡◌, ℕ, zero, suc, ◌+◌, ◌<◌, ◌≤◌, Bool, true, cond, not, ◌&&◌, eqb, leb, List, [], ◌∷◌, length, Some, sym, refl, ap, ◌∙◌, subst, arith, lit<}
use Rattle.std.proofs.lemmas.Bool.{and_parts, leb-true, eqb-true, not-true, both_ways}
use Rattle.codetable.specs.declared.word.Codeword.{Codeword}
use Rattle.codetable.specs.Codewords.{most_words}
use Rattle.codetable.specs.Sequences.{joined_bits}
use Rattle.search.specs.Graphs.{Path, here, on, nth as edge_nth}
use Rattle.distance.specs.Distances.{distance, Rivals, FreeDistance}
use Rattle.distance.specs.Tails.{tails, place_count, start_place, finish_place, edges_from}
use Rattle.distance.specs.Laws.{Sound, tails_lawful}
use Rattle.distance.proofs.Paths.{paths_are_pairs}
use Rattle.worked.proofs.Tests.{below?, at_below, all?, same?, same_self}
use Rattle.worked.proofs.Tables.{formed?, all_formed, sequence?, is_sequence}

-- a number for each place: the listed ones have their own, and the others d
unfoldable pub floor : ℕ → List (ℕ × ℕ) → ℕ → ℕ
floor d [] p = d
floor d (m ∷ ms) p = cond (eqb p m.0) m.1 (floor d ms p)

-- no edge leads to more than the number before it and its cost
unfoldable pub edges? : (ℕ → ℕ) → ℕ → List (ℕ × ℕ) → Bool
edges? f n [] = true
edges? f n (e ∷ es) = leb (f e.0) (n + e.1) && edges? f n es

at_edges : (f : ℕ → ℕ) (n : ℕ) (es : List (ℕ × ℕ)) → edges? f n es ≡ true → (i q c : ℕ) → edge_nth es i ≡ Some (q, c) → f q ≤ n + c
unfolding edges?
at_edges f n [] ok i q c is = let z : ◌≡◌ {A = ℕ} 0 1 = cc in absurd (omega arith)
at_edges f n (e ∷ es) ok zero q c is =
    let both : ◌≡◌ {A = ℕ × ℕ} e (q, c) = cc in
    subst (λ (a : ℕ × ℕ). f a.0 ≤ n + a.1) both (leb-true (f e.0) (n + e.1) (and_parts (leb (f e.0) (n + e.1)) (edges? f n es) ok).0)
at_edges f n (e ∷ es) ok (suc i) q c is = at_edges f n es (and_parts (leb (f e.0) (n + e.1)) (edges? f n es) ok).1 i q c is

-- the numbers keep to every edge of the first places
abbrev pub floors? : List Codeword → (ℕ → ℕ) → ℕ → Bool
floors? ws f n = below? n (λ (p : ℕ). edges? f (f p) (edges_from ws p))

module _ (ws : List Codeword) (s : Sound ws) (f : ℕ → ℕ) (n : ℕ) (all : n ≡ place_count) (ok : floors? ws f n ≡ true) (none : f start_place ≡ 0) where
  -- a path costs no less than the number of its place
  path_floor : {p c : ℕ} → Path (tails ws) p c → (p < place_count) × (f p ≤ c)
  path_floor here = (lit< tt, omega arith)
  path_floor (on {p} {q} {c} {d} path edge) =
      let before = path_floor path in
      let row = at_below n (λ (p : ℕ). edges? f (f p) (edges_from ws p)) ok p (omega (arith, before.0)) in
      let step = at_edges f (f p) (edges_from ws p) row edge.0 q d edge.1 in
      ((tails_lawful ws s).inside p q d edge, omega (arith, before.1))

-- two word sequences, and numbers for places
pub record Shown : Type 0 where
  pub ks : List ℕ
  pub ls : List ℕ
  pub marks : List (ℕ × ℕ)

-- two different word sequences of equal bit length, at distance d
unfoldable pub rivals? : List Codeword → ℕ → List ℕ → List ℕ → Bool
rivals? ws d ks ls =
    sequence? ws ks && (sequence? ws ls && (not (same? ks ls) && (eqb (length (joined_bits ws ks)) (length (joined_bits ws ls)) && eqb (distance ws ks ls) d)))

unfoldable pub free? : List Codeword → ℕ → Shown → Bool
free? ws d x =
    leb (length ws) most_words && (all? formed? ws && (rivals? ws d x.ks x.ls && (floors? ws (floor d x.marks) place_count && (eqb (floor d x.marks start_place) 0 && eqb (floor d x.marks finish_place) d))))

are_rivals : (ws : List Codeword) (d : ℕ) (ks ls : List ℕ) → rivals? ws d ks ls ≡ true → Rivals ws ks ls × (distance ws ks ls ≡ d)
unfolding rivals?
are_rivals ws d ks ls ok =
    let far = eqb (distance ws ks ls) d in
    let long = eqb (length (joined_bits ws ks)) (length (joined_bits ws ls)) in
    let a = and_parts (sequence? ws ks) (sequence? ws ls && (not (same? ks ls) && (long && far))) ok in
    let b = and_parts (sequence? ws ls) (not (same? ks ls) && (long && far)) a.1 in
    let c = and_parts (not (same? ks ls)) (long && far) b.1 in
    let e = and_parts long far c.1 in (
      record {
        one = is_sequence ws ks a.0;
        other = is_sequence ws ls b.0;
        different = λ same. both_ways (same? ks ls) (not-true (same? ks ls) c.0) (ap (same? ks) (sym same) ∙ same_self ks);
        equally_long = eqb-true (length (joined_bits ws ks)) (length (joined_bits ws ls)) e.0;
      },
      eqb-true (distance ws ks ls) d e.1,
    )

pub free_by : (ws : List Codeword) (d : ℕ) (x : Shown) → free? ws d x ≡ true → FreeDistance ws d
unfolding free?
free_by ws d x ok =
    let f = floor d x.marks in
    let ends = eqb (f start_place) 0 && eqb (f finish_place) d in
    let a = and_parts (leb (length ws) most_words) (all? formed? ws && (rivals? ws d x.ks x.ls && (floors? ws f place_count && ends))) ok in
    let b = and_parts (all? formed? ws) (rivals? ws d x.ks x.ls && (floors? ws f place_count && ends)) a.1 in
    let c = and_parts (rivals? ws d x.ks x.ls) (floors? ws f place_count && ends) b.1 in
    let e = and_parts (floors? ws f place_count) ends c.1 in
    let g = and_parts (eqb (f start_place) 0) (eqb (f finish_place) d) e.1 in
    let start = eqb-true (f start_place) 0 g.0 in
    let finish = eqb-true (f finish_place) d g.1 in
    let s : Sound ws = record { few = leb-true (length ws) most_words a.0; formed = all_formed ws b.0 } in
    let rivals = are_rivals ws d x.ks x.ls c.0 in
    record {
      attained = (x.ks, x.ls, rivals.0, rivals.1);
      least = λ ks ls r.
          let way = (paths_are_pairs ws s).from_rivals ks ls r in
          let low = (path_floor ws s f place_count refl e.0 start way.1).1 in
          omega (arith, way.2);
    }
