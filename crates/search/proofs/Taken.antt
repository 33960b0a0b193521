-- What holds when the place with the least key is opened, and how many places are opened so far.
use Rattle.std.proofs.Common.{◌≡◌, ℕ, ◌+◌, ◌<◌, ◌≤◌, ltb, List, Some, None, Option, sym, refl, ap, ◌∙◌, subst, inl, inr, ⊎_elim, arith}
use Rattle.std.proofs.lemmas.Bool.{cases_eq, cond-true, lt-ltb}
use Rattle.queue.specs.Queues.{Model, Sets, Least, tally, one}
use Rattle.queue.proofs.Keyed.{not_both}
use Rattle.queue.proofs.Tallies.{tally-set, tally_same, tally_room}
use Rattle.search.specs.Graphs.{Graph, Path, LeastCost, Lawful, unknown, guess}
use Rattle.search.specs.Searches.{cost_at}
use Rattle.search.specs.Frontiers.{Done, Frontier, Relaxing, Searching, Keeps, KeepsBeyond, Takes, key_at, settled, settled_at}
use Rattle.search.proofs.Ahead.{ahead, held_inside}
use Rattle.search.proofs.Lowered.{beyond_both}

module _ {g : Graph} (law : Lawful g) {costs : List ℕ} {m q : Model} {place bound : ℕ} (s : Searching g costs m) (t : Takes m q bound place) (finish : bound ≡ cost_at costs g.finish) where
  f : Frontier g costs m s.level
  f = s.frontier

  l : Least m t.key place
  l = t.least

  w : Sets m q place None
  w = t.sets

  below : place < g.size
  below = held_inside law f place t.key l.here

  known : cost_at costs place < unknown
  known = f.known place t.key l.here

  guessed : (e : ℕ) × (g.estimate place ≡ Some e)
  guessed = f.estimates place below known

  -- the key of the place
  is_key : t.key ≡ key_at g costs place
  is_key =
      let sum = f.keys place t.key guessed.0 l.here guessed.1 in
      let is : guess (g.estimate place) ≡ guessed.0 = ap guess guessed.1 in
      omega arith

  -- another place is as it was
  held : (p k : ℕ) → q.key p ≡ Some k → m.key p ≡ Some k
  held p k is =
      ⊎_elim
      (λ h. absurd (not_both (q.key p) k (ap q.key h ∙ w.here) is))
      (λ h. sym (w.others p h) ∙ is)
      (cases_eq p place)

  was : (p : ℕ) → Done g costs q p → (p ≡ place → ⊥) → Done g costs m p
  was p done apart = record { below = done.below; known = done.known; free = sym (w.others p apart) ∙ done.free }

  still : (p : ℕ) → Done g costs m p → Done g costs q p
  still p done =
      record {
        below = done.below;
        known = done.known;
        free = w.others p (λ same. not_both (m.key place) t.key (ap m.key (sym same) ∙ done.free) l.here) ∙ done.free;
      }

  -- the place costs no more than any path to it
  least : (d : ℕ) → Path g place d → cost_at costs place ≤ d
  least d path =
      ⊎_elim
      (λ h. absurd (not_both (m.key place) t.key h.0.free l.here))
      (λ h.
      let up = l.least h.0 h.1 h.2 in
      let sum = f.keys place t.key guessed.0 l.here guessed.1 in
      omega (arith, h.3))
      (ahead law f s.relaxed path guessed.0 guessed.1)

  pub taken_relaxing : Relaxing g costs q place 0
  taken_relaxing =
      record {
        frontier =
            record {
              room = omega (arith, f.room, w.size);
              long = f.long;
              bare = λ p past. w.others p (λ same. omega (arith, below)) ∙ f.bare p past;
              most = f.most;
              paths = f.paths;
              estimates = f.estimates;
              known = λ p k is. f.known p k (held p k is);
              fits = λ p k is. f.fits p k (held p k is);
              keys = λ p k e is ee. f.keys p k e (held p k is) ee;
              origin = λ p k is.
                  ⊎_elim
                  (λ h. inl h)
                  (λ h.
                  inr (record { from = h.from; done = still h.from h.done; edge_cost = h.edge_cost; edge = h.edge; sum = h.sum }))
                  (f.origin p k (held p k is));
              least = λ p done.
                  ⊎_elim
                  (λ h. subst (λ (x : ℕ). LeastCost g x (cost_at costs x)) (sym h) (record { path = f.paths place below known; least = least }))
                  (λ h. f.least p (was p done h))
                  (cases_eq p place);
              begun = f.begun;
              low = λ p e done ee.
                  ⊎_elim
                  (λ h.
                  let at : cost_at costs p ≡ cost_at costs place = ap (cost_at costs) h in
                  let is : guess (g.estimate place) ≡ e = ap guess (ap g.estimate (sym h) ∙ ee) in
                  omega arith)
                  (λ h. omega (arith, f.low p e (was p done h) ee, f.high place t.key l.here, is_key))
                  (cases_eq p place);
              high = λ p k is. omega (arith, l.least p k (held p k is), is_key);
              finish = omega (arith, t.within, finish, is_key);
            };
        done = record { below = below; known = known; free = w.here };
        relaxed = λ p i u d e done edge upto ee.
            ⊎_elim
            (λ h. let never = upto h in absurd (omega arith))
            (λ h. s.relaxed p u d e (was p done h) (i, edge) ee)
            (cases_eq p place);
      }

  -- the place was not opened before
  pub fresh : settled costs m place ≡ None
  fresh = ap (λ (x : Option ℕ). settled_at x (cost_at costs place)) l.here

  -- some place is not opened yet
  pub count_room : tally (settled costs m) g.size < g.size
  count_room = tally_room (settled costs m) g.size place below fresh

  -- one place more is opened
  pub count_taken : tally (settled costs q) g.size ≡ tally (settled costs m) g.size + 1
  count_taken =
      let step = tally-set (settled costs m) (settled costs q) g.size place below (λ p apart. ap (λ (x : Option ℕ). settled_at x (cost_at costs p)) (w.others p apart)) in
      let before : one (settled costs m place) ≡ 0 = ap one fresh in
      let now_free : settled costs q place ≡ settled_at None (cost_at costs place) = ap (λ (x : Option ℕ). settled_at x (cost_at costs place)) w.here in
      let now_known : settled_at None (cost_at costs place) ≡ Some (cost_at costs place) = cond-true (ltb (cost_at costs place) unknown) (Some (cost_at costs place)) None (lt-ltb (cost_at costs place) unknown known) in
      let after : one (settled costs q place) ≡ 1 = ap one (now_free ∙ now_known) in
      omega arith

-- a search on its way, from the costs and the queue it began with
pub record Running (g : Graph) (before costs : List ℕ) (first m : Model) (opened : ℕ) : Type 0 where
  pub searching : Searching g costs m
  pub count : opened ≡ tally (settled costs m) g.size
  pub beyond : KeepsBeyond g before costs first m

pub running_more : {g : Graph} → Lawful g → {before costs after : List ℕ} {first m q r : Model} {opened next place bound : ℕ} → Running g before costs first m opened → Takes m q bound place → bound ≡ cost_at costs g.finish → Searching g after r → Keeps g costs after q r → next ≡ opened + 1 → Running g before after first r next
running_more {g} law {before} {costs} {after} {first} {m} {q} {r} run t finish s k e =
    record {
      searching = s;
      count =
          let same = tally_same (settled costs q) (settled after r) g.size (λ p below. k.opened p below) in
          let more = count_taken law run.searching t finish in
          omega (arith, run.count);
      beyond = beyond_both run.beyond (beyond_both (record { size = t.sets.size; rest = λ p past. refl }) k.beyond);
    }
