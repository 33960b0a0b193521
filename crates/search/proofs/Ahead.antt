-- Where a path leads while a search is on its way.
use Rattle.std.proofs.Common.{◌≡◌, ℕ, zero, suc, ◌+◌, ◌<◌, ◌≤◌, ◌⊎◌, List, [], ◌∷◌, length, Some, None, Option, sym, refl, ap, ◌∙◌, inl, inr, ⊎_elim, arith}
use Rattle.std.proofs.lemmas.Bool.{cases_lt}
use Rattle.queue.specs.Queues.{Model}
use Rattle.queue.proofs.Keyed.{same_key, not_both}
use Rattle.search.specs.Graphs.{Graph, Path, Lawful, unknown, nth, here, on}
use Rattle.search.specs.Searches.{cost_at}
use Rattle.search.specs.Frontiers.{Done, Frontier, Relaxed}

-- an edge's index is below the number of edges
pub nth_below : (es : List (ℕ × ℕ)) (i : ℕ) (e : ℕ × ℕ) → nth es i ≡ Some e → i < length es
nth_below [] i e is = absurd (cc)
nth_below (x ∷ es) zero e is = omega arith
nth_below (x ∷ es) (suc i) e is = let below = nth_below es i e is in omega arith

-- one edge leads to one place at one cost
pub same_edge : (o : Option (ℕ × ℕ)) (t d u c : ℕ) → o ≡ Some (t, d) → o ≡ Some (u, c) → (t ≡ u) × (d ≡ c)
same_edge o t d u c e f =
    let both : ◌≡◌ {A = ℕ × ℕ} (t, d) (u, c) = cc in
    (ap (λ (a : ℕ × ℕ). a.0) both, ap (λ (a : ℕ × ℕ). a.1) both)

-- none, or some value
pub none_or_some : {X : Type 0} (o : Option X) → (o ≡ None) ⊎ ((x : X) × (o ≡ Some x))
none_or_some None = inl refl
none_or_some (Some x) = inr (x, refl)

-- the estimate of the start is no more than the cost of a path and the estimate at its end
pub estimate_most : {g : Graph} → Lawful g → (s : ℕ) → g.estimate g.start ≡ Some s → {p c : ℕ} → Path g p c → (e : ℕ) → g.estimate p ≡ Some e → s ≤ c + e
estimate_most {g} law s es here e ee = let same = same_key (g.estimate g.start) s e es ee in omega arith
estimate_most law s es (on {p} {q} {c} {d} path edge) e ee =
    let f = law.estimated p q d e edge ee in
    let before = estimate_most law s es path f.0 f.1 in
    let step = law.consistent p q d f.0 e edge f.1 ee in
    omega arith

-- a path leads to an opened place that costs no more, or some place waits with a key that is no more than the path's
-- cost and the estimate at its end
abbrev pub Ahead : Graph → List ℕ → Model → ℕ → ℕ → ℕ → Type 0
Ahead g costs q p c e = (Done g costs q p × (cost_at costs p ≤ c)) ⊎ ((t : ℕ) × (k : ℕ) × (q.key t ≡ Some k) × (k ≤ c + e))

module _ {g : Graph} (law : Lawful g) {costs : List ℕ} {q : Model} {level : ℕ} (f : Frontier g costs q level) where
  -- a held place is a place of the graph
  pub held_inside : (p k : ℕ) → q.key p ≡ Some k → p < g.size
  held_inside p k e = ⊎_elim (λ h. h) (λ h. absurd (not_both (q.key p) k (f.bare p h) e)) (cases_lt p g.size)

  -- a place with a known cost is opened, or waits
  pub known_cases : (p : ℕ) → p < g.size → cost_at costs p < unknown → Done g costs q p ⊎ ((k : ℕ) × (q.key p ≡ Some k))
  known_cases p below known =
      ⊎_elim (λ h. inl (record { below = below; known = known; free = h })) (λ h. inr h) (none_or_some (q.key p))

  -- a place that costs no more than a path has that path ahead of it
  pub known_ahead : (p c e : ℕ) → p < g.size → cost_at costs p < unknown → cost_at costs p ≤ c → g.estimate p ≡ Some e → Ahead g costs q p c e
  known_ahead p c e below known le ee =
      ⊎_elim
      (λ h. inl (h, le))
      (λ h. let key = f.keys p h.0 e h.1 ee in inr (p, h.0, h.1, omega arith))
      (known_cases p below known)

  module _ (rel : Relaxed g costs q) where
    pub ahead : {p c : ℕ} → Path g p c → (e : ℕ) → g.estimate p ≡ Some e → Ahead g costs q p c e
    ahead here e ee =
        let none = f.begun e ee in
        known_ahead g.start 0 e law.start (omega arith) (omega arith) ee
    ahead (on {p} {q = t} {c} {d} path edge) e ee =
        let s = law.estimated p t d e edge ee in
        let step = law.consistent p t d s.0 e edge s.1 ee in
        ⊎_elim
        (λ h.
        let less = rel p t d e h.0 edge ee in
        let bound = law.bounded p t (cost_at costs p) d (f.least p h.0) edge in
        known_ahead t (c + d) e (law.inside p t d edge) (omega arith) (omega (arith, h.1)) ee)
        (λ h. inr (h.0, h.1, h.2, omega (arith, h.3)))
        (ahead path s.0 s.1)

-- an edge has nothing to lower
abbrev pub NothingToLower : Graph → List ℕ → ℕ → ℕ → Type 0
NothingToLower g costs place n = (t d e : ℕ) → nth (g.edges place) n ≡ Some (t, d) → g.estimate t ≡ Some e → cost_at costs t ≤ cost_at costs place + d

-- one to a place without an estimate has nothing to lower
pub no_estimate : (g : Graph) (costs : List ℕ) (place n u c : ℕ) → Some (u, c) ≡ nth (g.edges place) n → None ≡ g.estimate u → NothingToLower g costs place n
no_estimate g costs place n u c there lacks t d e is ee =
    let same = (same_edge (nth (g.edges place) n) u c t d (sym there) is).0 in
    absurd (not_both (g.estimate t) e (ap g.estimate (sym same) ∙ sym lacks) ee)
