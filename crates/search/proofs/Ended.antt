-- What a search leaves when no waiting place is within the limit.
use Rattle.std.proofs.Common.{◌≡◌, ℕ, ◌+◌, ◌<◌, ◌≤◌, ltb, List, Some, None, Option, sym, ap, ◌∙◌, subst, inl, inr, ⊎_elim, arith}
use Rattle.std.proofs.lemmas.Bool.{cases_lt, cond-true, lt-ltb}
use Rattle.queue.specs.Queues.{Model, tally, held_count}
use Rattle.queue.proofs.Keyed.{not_both}
use Rattle.search.specs.Graphs.{Graph, Path, LeastCost, Lawful, NoPath, unknown}
use Rattle.search.specs.Searches.{cost_at, Within, Opened, Reached, Waiting, Outcome, Leaves, Counted, IsOpened, IsWaiting, Finds, opened, waiting, neither}
use Rattle.search.specs.Frontiers.{Done, Frontier, Searching, KeepsBeyond, NoneWithin, settled, settled_at}
use Rattle.search.proofs.Ahead.{ahead, known_cases, none_or_some, estimate_most}
use Rattle.search.proofs.Lowered.{not_settled}
use Rattle.search.proofs.Counting.{counted, Tells, tally_past}

-- less than what is within a limit is within it
within_less : (limit : Option ℕ) (a b : ℕ) → a ≤ b → Within limit b → Within limit a
within_less None a b le in_it = tt
within_less (Some l) a b le in_it = omega arith

-- the search is at its end for a limit: no waiting place is within it, and every opened one and the start are
pub record Ends (g : Graph) (costs : List ℕ) (q : Model) (limit : Option ℕ) : Type 0 where
  pub over : (p k : ℕ) → q.key p ≡ Some k → Within limit k → ⊥
  pub within : (p e : ℕ) → Done g costs q p → g.estimate p ≡ Some e → Within limit (cost_at costs p + e)
  pub start : (e : ℕ) → g.estimate g.start ≡ Some e → Within limit e

module _ {g : Graph} (law : Lawful g) {costs : List ℕ} {q : Model} (s : Searching g costs q) where
  f : Frontier g costs q s.level
  f = s.frontier

  -- without a cost of the finish there is no path to it
  pub ends_none : cost_at costs g.finish ≡ unknown → NoneWithin q (cost_at costs g.finish) → NoPath g
  ends_none no_cost over c path =
      ⊎_elim
      (λ h. omega (arith, h.0.known))
      (λ h. omega (arith, over h.0 h.1 h.2, f.fits h.0 h.1 h.2))
      (ahead law f s.relaxed path 0 law.nearest)

  pub ended_none : cost_at costs g.finish ≡ unknown → NoneWithin q (cost_at costs g.finish) → Ends g costs q None
  ended_none no_cost over =
      record {
        over = λ p k is in_it. omega (arith, over p k is, f.fits p k is);
        within = λ p e done ee. tt;
        start = λ e ee. tt;
      }

  -- a known cost of the finish is the least
  pub ends_some : cost_at costs g.finish < unknown → NoneWithin q (cost_at costs g.finish) → LeastCost g g.finish (cost_at costs g.finish)
  ends_some known over =
      ⊎_elim
      (λ h. f.least g.finish h)
      (λ h.
      let sum = f.keys g.finish h.0 0 h.1 law.nearest in
      absurd (omega (arith, over g.finish h.0 h.1)))
      (known_cases law f g.finish law.finish known)

  pub ended_some : cost_at costs g.finish < unknown → NoneWithin q (cost_at costs g.finish) → Ends g costs q (Some (cost_at costs g.finish))
  ended_some known over =
      record {
        over = λ p k is in_it. omega (arith, over p k is);
        within = λ p e done ee. omega (arith, f.low p e done ee, f.finish);
        start = λ e ee.
            let most = estimate_most law e ee (f.paths g.finish law.finish known) 0 law.nearest in
            omega arith;
      }

  module _ {limit : Option ℕ} (end : Ends g costs q limit) where
    -- a path within the limit leads to a place that the search opened
    reaches : (p c e : ℕ) → Path g p c → g.estimate p ≡ Some e → Within limit (c + e) → Done g costs q p × (cost_at costs p ≤ c)
    reaches p c e path ee in_it =
        ⊎_elim
        (λ h. h)
        (λ h. absurd (end.over h.0 h.1 h.2 (within_less limit h.1 (c + e) h.3 in_it)))
        (ahead law f s.relaxed path e ee)

    opened_done : (p c e : ℕ) → Opened g limit p c e → Done g costs q p
    opened_done p c e o = (reaches p c e o.least.path o.estimate o.within).0

    opened_cost : (p c e : ℕ) → Opened g limit p c e → cost_at costs p ≡ c
    opened_cost p c e o =
        let done = opened_done p c e o in
        let down = o.least.least (cost_at costs p) (f.paths p done.below done.known) in
        let up = (reaches p c e o.least.path o.estimate o.within).1 in
        omega arith

    done_opened : (p e : ℕ) → Done g costs q p → g.estimate p ≡ Some e → Opened g limit p (cost_at costs p) e
    done_opened p e done ee = record { estimate = ee; least = f.least p done; within = end.within p e done ee }

    estimate_of : (p : ℕ) → Done g costs q p → (e : ℕ) × (g.estimate p ≡ Some e)
    estimate_of p done = f.estimates p done.below done.known

    -- a place reached from an opened one costs no more
    reached_least : (p e c : ℕ) → g.estimate p ≡ Some e → Reached g limit p c → (cost_at costs p ≤ c) × (c < unknown)
    reached_least p e c ee w =
        let done = opened_done w.from w.cost w.estimate w.opened in
        let at = opened_cost w.from w.cost w.estimate w.opened in
        let low = s.relaxed w.from p w.edge_cost e done w.edge ee in
        let bound = law.bounded w.from p w.cost w.edge_cost w.opened.least w.edge in
        (omega (arith, w.sum), omega (arith, w.sum))

    held_unopened : (p k c e : ℕ) → q.key p ≡ Some k → Opened g limit p c e → ⊥
    held_unopened p k c e is o = not_both (q.key p) k (opened_done p c e o).free is

    -- a place in the queue waits
    held_waiting : (p k e : ℕ) → q.key p ≡ Some k → g.estimate p ≡ Some e → Waiting g limit p (cost_at costs p) e
    held_waiting p k e is ee =
        record {
          estimate = ee;
          unopened = λ c x o. held_unopened p k c x is o;
          reached =
              ⊎_elim
              (λ h.
              let es : g.estimate g.start ≡ Some e = ap g.estimate (sym h) ∙ ee in
              let zero = f.begun e es in
              let same : cost_at costs p ≡ cost_at costs g.start = ap (cost_at costs) h in
              let sum = f.keys p k e is ee in
              absurd (end.over p k is (within_less limit k e (omega arith) (end.start e es))))
              (λ w.
              let x = estimate_of w.from w.done in
              record {
                from = w.from;
                cost = cost_at costs w.from;
                estimate = x.0;
                opened = done_opened w.from x.0 w.done x.1;
                edge_cost = w.edge_cost;
                edge = w.edge;
                sum = w.sum;
              })
              (f.origin p k is);
          least = λ c w. (reached_least p e c ee w).0;
        }

    -- a place of unknown cost neither is opened nor waits
    unknown_opened : (p : ℕ) → unknown ≤ cost_at costs p → (c e : ℕ) → Opened g limit p c e → ⊥
    unknown_opened p past c e o = omega (arith, (opened_done p c e o).known)

    unknown_waiting : (p : ℕ) → unknown ≤ cost_at costs p → (c e : ℕ) → Waiting g limit p c e → ⊥
    unknown_waiting p past c e w =
        let r = reached_least p e c w.estimate w.reached in
        omega (arith, r.0, r.1)

    unknown_free : (p : ℕ) → unknown ≤ cost_at costs p → q.key p ≡ None
    unknown_free p past =
        ⊎_elim (λ h. h) (λ h. absurd (omega (arith, f.known p h.0 h.1))) (none_or_some (q.key p))

    outcome : (p : ℕ) → p < g.size → Outcome g limit p (cost_at costs p) (q.key p)
    outcome p below =
        ⊎_elim
        (λ known.
        let x = f.estimates p below known in
        ⊎_elim
        (λ done. subst (λ (o : Option ℕ). Outcome g limit p (cost_at costs p) o) (sym done.free) (opened (done_opened p x.0 done x.1)))
        (λ h.
        let sum = f.keys p h.0 x.0 h.1 x.1 in
        subst (λ (o : Option ℕ). Outcome g limit p (cost_at costs p) o) (sym (h.1 ∙ ap Some sum)) (waiting (held_waiting p h.0 x.0 h.1 x.1)))
        (known_cases law f p below known))
        (λ past.
        let is : cost_at costs p ≡ unknown = omega (arith, f.most p below) in
        subst (λ (o : Option ℕ). Outcome g limit p (cost_at costs p) o) (sym (unknown_free p past)) (subst (λ (c : ℕ). Outcome g limit p c None) (sym is) (neither (unknown_opened p past) (unknown_waiting p past))))
        (cases_lt (cost_at costs p) unknown)

    pub leaves : {m : Model} {before : List ℕ} → KeepsBeyond g before costs m q → Leaves g limit m q before costs
    leaves beyond =
        record {
          places = outcome;
          whole = λ p c e path ee in_it.
              (cost_at costs p, done_opened p e (reaches p c e path ee in_it).0 ee);
          bare = f.bare;
          rest = beyond.rest;
          size = beyond.size;
        }

    tells_opened : (p : ℕ) → p < g.size → Tells (IsOpened g limit p) (settled costs q p)
    tells_opened p below =
        ⊎_elim
        (λ known.
        let x = f.estimates p below known in
        ⊎_elim
        (λ done.
        let free : settled costs q p ≡ settled_at None (cost_at costs p) = ap (λ (o : Option ℕ). settled_at o (cost_at costs p)) done.free in
        let is : settled_at None (cost_at costs p) ≡ Some (cost_at costs p) = cond-true (ltb (cost_at costs p) unknown) (Some (cost_at costs p)) None (lt-ltb (cost_at costs p) unknown known) in
        inl ((cost_at costs p, x.0, done_opened p x.0 done x.1), cost_at costs p, free ∙ is))
        (λ h. inr (λ o. held_unopened p h.0 o.0 o.1 h.1 o.2, ap (λ (o : Option ℕ). settled_at o (cost_at costs p)) h.1))
        (known_cases law f p below known))
        (λ past. inr (λ o. unknown_opened p past o.0 o.1 o.2, not_settled (q.key p) (cost_at costs p) (λ free. past)))
        (cases_lt (cost_at costs p) unknown)

    tells_waiting : (p : ℕ) → p < g.size → Tells (IsWaiting g limit p) (q.key p)
    tells_waiting p below =
        ⊎_elim
        (λ known.
        let x = f.estimates p below known in
        ⊎_elim
        (λ done. inr (λ w. w.2.unopened (cost_at costs p) x.0 (done_opened p x.0 done x.1), done.free))
        (λ h. inl ((cost_at costs p, x.0, held_waiting p h.0 x.0 h.1 x.1), h.0, h.1))
        (known_cases law f p below known))
        (λ past. inr (λ w. unknown_waiting p past w.0 w.1 w.2, unknown_free p past))
        (cases_lt (cost_at costs p) unknown)

    pub counts_opened : (n : ℕ) → n ≡ tally (settled costs q) g.size → Counted (IsOpened g limit) g.size n
    counts_opened n e =
        subst (λ (x : ℕ). Counted (IsOpened g limit) g.size x) (sym e) (counted (IsOpened g limit) (settled costs q) g.size tells_opened)

    pub counts_waiting : (n : ℕ) → n ≡ held_count q → Counted (IsWaiting g limit) g.size n
    counts_waiting n e =
        subst (λ (x : ℕ). Counted (IsWaiting g limit) g.size x) (sym (e ∙ tally_past q.key g.size q.size f.room f.bare)) (counted (IsWaiting g limit) q.key g.size tells_waiting)

  -- the answer where the cost of the finish is known
  pub finds : {at n k : ℕ} → at ≡ g.finish → (cost_at costs at ≡ unknown → ⊥) → NoneWithin q (cost_at costs g.finish) → n ≡ tally (settled costs q) g.size → k ≡ held_count q → (NoPath g → ⊥) × Finds g (record { limit = cost_at costs at; opened = n; waiting = k }) × Ends g costs q (Some (cost_at costs at))
  finds {at} {n} {k} e some over en ek =
      let same : cost_at costs at ≡ cost_at costs g.finish = ap (cost_at costs) e in
      let known : cost_at costs g.finish < unknown =
      ⊎_elim (λ h. h) (λ h. let is : cost_at costs at ≡ unknown = omega (arith, f.most g.finish law.finish) in absurd (some is)) (cases_lt (cost_at costs g.finish) unknown) in
      let least = ends_some known over in
      let end : Ends g costs q (Some (cost_at costs at)) = subst (λ (c : ℕ). Ends g costs q (Some c)) (sym same) (ended_some known over) in (
        λ lacks. lacks (cost_at costs g.finish) least.path,
        record {
          limit = subst (λ (c : ℕ). LeastCost g g.finish c) (sym same) least;
          opened = counts_opened end n en;
          waiting = counts_waiting end k ek;
        },
        end,
      )
