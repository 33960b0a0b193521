-- What holds after one edge more is relaxed.
use Rattle.std.proofs.Common.{◌≡◌, ℕ, ◌+◌, ◌<◌, ◌≤◌, ltb, List, length, set, Some, None, Option, sym, refl, ap, ◌∙◌, subst, inl, inr, ⊎_elim, arith}
use Rattle.std.proofs.lemmas.List.{get_or-set_same, get_or-set_other, length-set}
use Rattle.std.proofs.lemmas.Bool.{cases_lt, cases_eq, cond-false, le-ltb}
use Rattle.queue.specs.Queues.{Model, Offered, lesser}
use Rattle.queue.proofs.Keyed.{same_key, not_both}
use Rattle.search.specs.Graphs.{Graph, Path, LeastCost, Lawful, unknown, nth, guess, on}
use Rattle.search.specs.Searches.{cost_at}
use Rattle.search.specs.Frontiers.{Done, CostFrom, Frontier, Relaxing, Searching, Keeps, KeepsBeyond, Lowers, key_at, settled, settled_at}
use Rattle.search.proofs.Ahead.{nth_below, same_edge}

-- nothing changes
pub keeps_same : {g : Graph} {costs : List ℕ} {q : Model} → Keeps g costs costs q q
keeps_same = record { beyond = record { size = refl; rest = λ p le. refl }; opened = λ p lt. refl }

-- one change after another
pub beyond_both : {g : Graph} {a b c : List ℕ} {m q r : Model} → KeepsBeyond g a b m q → KeepsBeyond g b c q r → KeepsBeyond g a c m r
beyond_both k l = record { size = l.size ∙ k.size; rest = λ p le. l.rest p le ∙ k.rest p le }

pub keeps_both : {g : Graph} {a b c : List ℕ} {m q r : Model} → Keeps g a b m q → Keeps g b c q r → Keeps g a c m r
keeps_both k l =
    record { beyond = beyond_both k.beyond l.beyond; opened = λ p lt. l.opened p lt ∙ k.opened p lt }

-- the key after an offer of no more than a place has
pub lesser_is : (o : Option ℕ) (key : ℕ) → ((had : ℕ) → o ≡ Some had → key ≤ had) → lesser o key ≡ key
lesser_is None key h = refl
lesser_is (Some had) key h = let le = h had refl in omega arith

-- a place whose cost is not known is not settled
pub not_settled : (o : Option ℕ) (c : ℕ) → (o ≡ None → unknown ≤ c) → settled_at o c ≡ None
not_settled None c h = cond-false (ltb c unknown) (Some c) None (le-ltb c unknown (h refl))
not_settled (Some k) c h = refl

module _ {g : Graph} {costs : List ℕ} {q : Model} {place n : ℕ} (r : Relaxing g costs q place n) where
  -- the next edge has nothing to lower
  pub relaxed_more : ((t d e : ℕ) → nth (g.edges place) n ≡ Some (t, d) → g.estimate t ≡ Some e → cost_at costs t ≤ cost_at costs place + d) → Relaxing g costs q place (n + 1)
  relaxed_more low =
      record {
        frontier = r.frontier;
        done = r.done;
        relaxed = λ p i t d e done edge upto ee.
            ⊎_elim
            (λ h.
            ⊎_elim
            (λ last.
            let at : nth (g.edges place) n ≡ Some (t, d) = ap (λ (x : ℕ). nth (g.edges place) x) (sym last) ∙ ap (λ (x : ℕ). nth (g.edges x) i) (sym h) ∙ edge in
            let le = low t d e at ee in
            let same : cost_at costs p ≡ cost_at costs place = ap (cost_at costs) h in
            omega arith)
            (λ early. r.relaxed p i t d e done edge (λ same. let lt = upto same in ⊎_elim (λ x. x) (λ x. let eq : i ≡ n = omega arith in absurd (early eq)) (cases_lt i n)) ee)
            (cases_eq i n))
            (λ h. r.relaxed p i t d e done edge (λ same. absurd (h same)) ee)
            (cases_eq p place);
      }

  -- every edge is relaxed
  pub relaxed_all : length (g.edges place) ≤ n → Searching g costs q
  relaxed_all all =
      record {
        level = key_at g costs place;
        frontier = r.frontier;
        relaxed = λ p t d e done edge ee.
            r.relaxed p edge.0 t d e done edge.1 (λ same.
            let at : nth (g.edges place) edge.0 ≡ Some (t, d) = ap (λ (x : ℕ). nth (g.edges x) edge.0) (sym same) ∙ edge.1 in
            let below = nth_below (g.edges place) edge.0 (t, d) at in
            omega arith) ee;
      }

-- the cost of the place t is lowered, and it is offered
module _ {g : Graph} (law : Lawful g) {costs : List ℕ} {q : Model} {place n : ℕ} (r : Relaxing g costs q place n) {t d e : ℕ} (at_edge : Some (t, d) ≡ nth (g.edges place) n) (at_end : Some e ≡ g.estimate t) where
  edge : nth (g.edges place) n ≡ Some (t, d)
  edge = sym at_edge

  ee : g.estimate t ≡ Some e
  ee = sym at_end

  bound : cost_at costs place + d + guess (g.estimate t) < unknown
  bound = law.bounded place t (cost_at costs place) d (r.frontier.least place r.done) (n, edge)

  -- the sum of the new cost and the estimate fits
  pub sum_fits : cost_at costs place + d + e < unknown
  sum_fits = let is : guess (g.estimate t) ≡ e = ap guess ee in omega (arith, bound)

  pub inside : t < g.size
  inside = law.inside place t d (n, edge)

  to : Path g t (cost_at costs place + d)
  to = on (r.frontier.paths place r.done.below r.done.known) (n, edge)

  module _ (q' : Model) (less : cost_at costs place + d < cost_at costs t) (o : Offered q q' t (cost_at costs place + d + e)) where
    after : List ℕ
    after = set costs t (cost_at costs place + d)

    f : Frontier g costs q (key_at g costs place)
    f = r.frontier

    -- t is not opened
    waits : Done g costs q t → ⊥
    waits done = let le = (f.least t done).least (cost_at costs place + d) to in omega arith

    at : cost_at after t ≡ cost_at costs place + d
    unfolding after
    at = get_or-set_same costs t (cost_at costs place + d) 0 (omega (arith, inside, f.long))

    off : (p : ℕ) → (p ≡ t → ⊥) → cost_at after p ≡ cost_at costs p
    unfolding after
    off p apart = get_or-set_other costs t p (cost_at costs place + d) 0 apart

    key : q'.key t ≡ Some (cost_at costs place + d + e)
    key = o.here ∙ ap Some (lesser_is (q.key t) (cost_at costs place + d + e) (λ had is. let k = f.keys t had e is ee in omega arith))

    -- the same places are opened
    apart : (p : ℕ) → Done g after q' p → p ≡ t → ⊥
    apart p done same = not_both (q'.key t) _ (ap q'.key (sym same) ∙ done.free) key

    was : (p : ℕ) → Done g after q' p → Done g costs q p
    was p done =
        let same = off p (apart p done) in
        record {
          below = done.below;
          known = omega (arith, done.known);
          free = sym (o.others p (apart p done)) ∙ done.free;
        }

    other : (p : ℕ) → Done g costs q p → p ≡ t → ⊥
    other p done same = waits (subst (λ (x : ℕ). Done g costs q x) same done)

    still : (p : ℕ) → Done g costs q p → Done g after q' p
    still p done =
        let same = off p (other p done) in
        record {
          below = done.below;
          known = omega (arith, done.known);
          free = o.others p (other p done) ∙ done.free;
        }

    there : cost_at after place ≡ cost_at costs place
    there = off place (other place r.done)

    -- what holds of t holds of a place equal to it
    from : (p : ℕ) → CostFrom g costs q p → (p ≡ t → ⊥) → CostFrom g after q' p
    from p w away =
        let same = off p away in
        let source = off w.from (other w.from w.done) in
        record {
          from = w.from;
          done = still w.from w.done;
          edge_cost = w.edge_cost;
          edge = w.edge;
          sum = same ∙ w.sum ∙ ap (λ (x : ℕ). x + w.edge_cost) (sym source);
        }

    by_edge : (p : ℕ) → p ≡ t → CostFrom g after q' p
    by_edge p same =
        record {
          from = place;
          done = still place r.done;
          edge_cost = d;
          edge = (n, edge ∙ ap (λ (x : ℕ). Some (x, d)) (sym same));
          sum = ap (cost_at after) same ∙ at ∙ ap (λ (x : ℕ). x + d) (sym there);
        }

    -- no cost rises
    lower_at : (p : ℕ) → cost_at after p ≤ cost_at costs p
    lower_at p =
        ⊎_elim
        (λ h. let new : cost_at after p ≡ cost_at after t = ap (cost_at after) h in let old : cost_at costs p ≡ cost_at costs t = ap (cost_at costs) h in omega (arith, at))
        (λ h. omega (arith, off p h))
        (cases_eq p t)

    key_here : (p k : ℕ) → q'.key p ≡ Some k → p ≡ t → k ≡ cost_at costs place + d + e
    key_here p k is same = same_key (q'.key p) k (cost_at costs place + d + e) is (ap q'.key same ∙ key)

    key_was : (p k : ℕ) → q'.key p ≡ Some k → (p ≡ t → ⊥) → q.key p ≡ Some k
    key_was p k is away = sym (o.others p away) ∙ is

    cost_here : (p : ℕ) → p ≡ t → cost_at after p ≡ cost_at costs place + d
    cost_here p same = ap (cost_at after) same ∙ at

    lowered_frontier : Frontier g after q' (key_at g costs place)
    unfolding after
    lowered_frontier =
        let sized : length (set costs t (cost_at costs place + d)) ≡ length costs = length-set costs t (cost_at costs place + d) in
        record {
          room = omega (arith, f.room, o.size);
          long = omega (arith, f.long);
          bare = λ p past. o.others p (λ same. omega (arith, inside)) ∙ f.bare p past;
          most = λ p below. omega (arith, f.most p below, lower_at p);
          paths = λ p below known.
              ⊎_elim
              (λ h. subst (λ (x : ℕ). Path g x (cost_at after p)) (sym h) (subst (λ (x : ℕ). Path g t x) (sym (cost_here p h)) to))
              (λ h. let same = off p h in subst (λ (x : ℕ). Path g p x) (sym same) (f.paths p below (omega arith)))
              (cases_eq p t);
          estimates = λ p below known.
              ⊎_elim
              (λ h. (e, ap g.estimate h ∙ ee))
              (λ h. let same = off p h in f.estimates p below (omega arith))
              (cases_eq p t);
          known = λ p k is.
              ⊎_elim
              (λ h. omega (arith, cost_here p h, sum_fits))
              (λ h. omega (arith, off p h, f.known p k (key_was p k is h)))
              (cases_eq p t);
          fits = λ p k is.
              ⊎_elim
              (λ h. omega (arith, key_here p k is h, sum_fits))
              (λ h. f.fits p k (key_was p k is h))
              (cases_eq p t);
          keys = λ p k x is ex.
              ⊎_elim
              (λ h.
              let same = same_key (g.estimate p) x e ex (ap g.estimate h ∙ ee) in
              omega (arith, key_here p k is h, cost_here p h))
              (λ h. let same = off p h in f.keys p k x (key_was p k is h) ex ∙ ap (λ (y : ℕ). y + x) (sym same))
              (cases_eq p t);
          origin = λ p k is.
              ⊎_elim
              (λ h. inr (by_edge p h))
              (λ h. ⊎_elim (λ s. inl s) (λ w. inr (from p w h)) (f.origin p k (key_was p k is h)))
              (cases_eq p t);
          least = λ p done.
              subst (λ (x : ℕ). LeastCost g p x) (sym (off p (apart p done))) (f.least p (was p done));
          begun = λ x ex. let old = f.begun x ex in omega (arith, lower_at g.start);
          low = λ p x done ex. omega (arith, off p (apart p done), f.low p x (was p done) ex);
          high = λ p k is.
              ⊎_elim
              (λ h.
              let s = law.estimated place t d e (n, edge) ee in
              let step = law.consistent place t d s.0 e (n, edge) s.1 ee in
              let is_guess : guess (g.estimate place) ≡ s.0 = ap guess s.1 in
              omega (arith, key_here p k is h))
              (λ h. f.high p k (key_was p k is h))
              (cases_eq p t);
          finish =
              ⊎_elim
              (λ h.
              let s = law.estimated place t d e (n, edge) ee in
              let step = law.consistent place t d s.0 e (n, edge) s.1 ee in
              let is_guess : guess (g.estimate place) ≡ s.0 = ap guess s.1 in
              let zero = same_key (g.estimate t) e 0 ee (ap g.estimate (sym h) ∙ law.nearest) in
              omega (arith, cost_here g.finish h))
              (λ h. omega (arith, off g.finish h, f.finish))
              (cases_eq g.finish t);
        }

    pub lowered : Relaxing g (set costs t (cost_at costs place + d)) q' place (n + 1)
    unfolding after
    lowered =
        record {
          frontier = subst (λ (x : ℕ). Frontier g after q' (x + guess (g.estimate place))) (sym there) lowered_frontier;
          done = still place r.done;
          relaxed = λ p i u c x done next upto ex.
              let old = was p done in
              let same = off p (apart p done) in
              let fell = lower_at u in
              ⊎_elim
              (λ h.
              ⊎_elim
              (λ last.
              let next_at : nth (g.edges place) n ≡ Some (u, c) = ap (λ (y : ℕ). nth (g.edges place) y) (sym last) ∙ ap (λ (y : ℕ). nth (g.edges y) i) (sym h) ∙ next in
              let same_place = (same_edge (nth (g.edges place) n) t d u c edge next_at).0 in
              let same_cost = (same_edge (nth (g.edges place) n) t d u c edge next_at).1 in
              let new = cost_here u (sym same_place) in
              let source : cost_at costs p ≡ cost_at costs place = ap (cost_at costs) h in
              omega arith)
              (λ early.
              let le = r.relaxed p i u c x old next (λ is. let lt = upto is in ⊎_elim (λ y. y) (λ y. let eq : i ≡ n = omega arith in absurd (early eq)) (cases_lt i n)) ex in
              omega arith)
              (cases_eq i n))
              (λ h. let le = r.relaxed p i u c x old next (λ is. absurd (h is)) ex in omega arith)
              (cases_eq p place);
        }

    pub lowered_keeps : Keeps g costs (set costs t (cost_at costs place + d)) q q'
    unfolding after
    lowered_keeps =
        record {
          beyond = record { size = o.size; rest = λ p past. off p (λ same. omega (arith, inside)) };
          opened = λ p below.
              ⊎_elim
              (λ h.
              let new : settled after q' p ≡ None = ap (λ (x : Option ℕ). settled_at x (cost_at after p)) (ap q'.key h ∙ key) in
              let old : settled costs q p ≡ None = not_settled (q.key p) (cost_at costs p) (λ free. ⊎_elim (λ known. absurd (waits (subst (λ (x : ℕ). Done g costs q x) h (record { below = below; known = known; free = free })))) (λ past. past) (cases_lt (cost_at costs p) unknown)) in
              new ∙ sym old)
              (λ h. ap (λ (x : Option ℕ). settled_at x (cost_at after p)) (o.others p h) ∙ ap (λ (x : ℕ). settled_at (q.key p) x) (off p h))
              (cases_eq p t);
        }

  -- after an edge to a place with an estimate
  pub relaxed_edge : {end : List ℕ} {q' : Model} → Lowers costs end q q' t (cost_at costs place + d) e → Relaxing g end q' place (n + 1) × Keeps g costs end q q'
  relaxed_edge {end} {q'} l =
      ⊎_elim
      (λ h.
      let w = l.less h in
      (subst (λ (x : List ℕ). Relaxing g x q' place (n + 1)) (sym w.0) (lowered q' h w.1), subst (λ (x : List ℕ). Keeps g costs x q q') (sym w.0) (lowered_keeps q' h w.1)))
      (λ h.
      let w = l.stays h in
      let low : (u c x : ℕ) → nth (g.edges place) n ≡ Some (u, c) → g.estimate u ≡ Some x → cost_at costs u ≤ cost_at costs place + c = λ u c x next ex.
      let same_place = (same_edge (nth (g.edges place) n) t d u c edge next).0 in
      let same_cost = (same_edge (nth (g.edges place) n) t d u c edge next).1 in
      let same : cost_at costs u ≡ cost_at costs t = ap (cost_at costs) (sym same_place) in
      omega arith in
      (subst (λ (y : Model). Relaxing g end y place (n + 1)) (sym w.1) (subst (λ (x : List ℕ). Relaxing g x q place (n + 1)) (sym w.0) (relaxed_more r low)), subst (λ (y : Model). Keeps g costs end q y) (sym w.1) (subst (λ (x : List ℕ). Keeps g costs x q q) (sym w.0) (keeps_same))))
      (cases_lt (cost_at costs place + d) (cost_at costs t))
