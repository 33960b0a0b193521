-- What holds when a search begins.
use Rattle.std.proofs.Common.{◌≡◌, ℕ, ◌+◌, ◌<◌, ◌≤◌, List, length, set, Some, None, Option, sym, refl, ap, ◌∙◌, subst, inl, ⊎_elim, arith}
use Rattle.std.proofs.lemmas.List.{get_or-set_same, get_or-set_other, length-set}
use Rattle.std.proofs.lemmas.Bool.{cases_eq}
use Rattle.queue.specs.Queues.{Model, Bare, Emptied, Offered, lesser}
use Rattle.queue.proofs.Keyed.{same_key, not_both}
use Rattle.search.specs.Graphs.{Graph, Path, Lawful, unknown, here}
use Rattle.search.specs.Searches.{cost_at}
use Rattle.search.specs.Frontiers.{Done, Frontier, Searching, Lowers, Clears}

-- what holds as a search begins: no place is opened
module _ (g : Graph) (law : Lawful g) (before costs : List ℕ) (q : Model) (room : g.size ≤ q.size) (long : g.size ≤ length costs) (clear : Clears before costs g.size) (bare : Bare q) where
  -- no cost is known
  no_cost : {X : Type 0} (p : ℕ) → p < g.size → cost_at costs p < unknown → X
  no_cost p below known = let blank = clear.blank p below in absurd (omega arith)

  -- no place is held
  no_key : {X : Type 0} (p k : ℕ) → q.key p ≡ Some k → X
  no_key p k is = absurd (not_both (q.key p) k (bare p) is)

  no_done : {X : Type 0} (p : ℕ) → Done g costs q p → X
  no_done p done = no_cost p done.below done.known

  -- the start has no estimate
  pub begins_bare : g.estimate g.start ≡ None → Searching g costs q
  begins_bare lacks =
      record {
        level = 0;
        frontier =
            record {
              room = room;
              long = long;
              bare = λ p past. bare p;
              most = λ p below. let blank = clear.blank p below in omega arith;
              paths = λ p below known. no_cost p below known;
              estimates = λ p below known. no_cost p below known;
              known = λ p k is. no_key p k is;
              fits = λ p k is. no_key p k is;
              keys = λ p k e is ee. no_key p k is;
              origin = λ p k is. no_key p k is;
              least = λ p done. no_done p done;
              begun = λ e ee. absurd (not_both (g.estimate g.start) e lacks ee);
              low = λ p e done ee. no_done p done;
              high = λ p k is. no_key p k is;
              finish = omega arith;
            };
        relaxed = λ p t d e done edge ee. no_done p done;
      }

  -- the start has an estimate, and waits with it
  module _ (s : ℕ) (es : g.estimate g.start ≡ Some s) (fits : s ≤ unknown) (q' : Model) (o : Offered q q' g.start (0 + s)) where
    after : List ℕ
    after = set costs g.start 0

    at : (p : ℕ) → p ≡ g.start → cost_at after p ≡ 0
    unfolding after
    at p same = ap (cost_at (set costs g.start 0)) same ∙ get_or-set_same costs g.start 0 0 (omega (arith, law.start))

    off : (p : ℕ) → p < g.size → (p ≡ g.start → ⊥) → cost_at after p ≡ unknown
    unfolding after
    off p below apart = get_or-set_other costs g.start p 0 0 apart ∙ clear.blank p below

    key : (p : ℕ) → p ≡ g.start → q'.key p ≡ Some s
    key p same =
        let first : lesser (q.key g.start) (0 + s) ≡ 0 + s = ap (λ (x : Option ℕ). lesser x (0 + s)) (bare g.start) in
        let sum : lesser (q.key g.start) (0 + s) ≡ s = omega arith in
        ap q'.key same ∙ o.here ∙ ap Some sum

    held : (p k : ℕ) → q'.key p ≡ Some k → p ≡ g.start
    held p k is =
        ⊎_elim (λ h. h) (λ h. absurd (not_both (q'.key p) k (o.others p h ∙ bare p) is)) (cases_eq p g.start)

    known_start : (p : ℕ) → p < g.size → cost_at after p < unknown → p ≡ g.start
    known_start p below known =
        ⊎_elim (λ h. h) (λ h. let away = off p below h in absurd (omega arith)) (cases_eq p g.start)

    none_done : {X : Type 0} (p : ℕ) → Done g after q' p → X
    none_done p done = absurd (not_both (q'.key p) s done.free (key p (known_start p done.below done.known)))

    frontier : Frontier g after q' 0
    unfolding after
    frontier =
        let sized = length-set costs g.start 0 in
        record {
          room = omega (arith, o.size);
          long = omega arith;
          bare = λ p past. o.others p (λ same. omega (arith, law.start)) ∙ bare p;
          most = λ p below.
              ⊎_elim (λ h. omega (arith, at p h)) (λ h. omega (arith, off p below h)) (cases_eq p g.start);
          paths = λ p below known.
              let same = known_start p below known in
              subst (λ (x : ℕ). Path g p x) (sym (at p same)) (subst (λ (x : ℕ). Path g x 0) (sym same) here);
          estimates = λ p below known. (s, ap g.estimate (known_start p below known) ∙ es);
          known = λ p k is. omega (arith, at p (held p k is));
          fits = λ p k is. let same = same_key (q'.key p) k s is (key p (held p k is)) in omega arith;
          keys = λ p k e is ee.
              let start = held p k is in
              let same = same_key (q'.key p) k s is (key p start) in
              let guess = same_key (g.estimate p) e s ee (ap g.estimate start ∙ es) in
              omega (arith, at p start);
          origin = λ p k is. inl (held p k is);
          least = λ p done. none_done p done;
          begun = λ e ee. at g.start refl;
          low = λ p e done ee. none_done p done;
          high = λ p k is. omega arith;
          finish = omega arith;
        }

    pub begins_start : Searching g (set costs g.start 0) q'
    unfolding after
    begins_start = record { level = 0; frontier = frontier; relaxed = λ p t d e done edge ee. none_done p done }

-- a search that begins: the queue is emptied to q, and the costs of n places, the graph's size, are cleared
module _ {g : Graph} (law : Lawful g) {before costs : List ℕ} {m q : Model} {n at : ℕ} (sized : n ≡ g.size) (starts : at ≡ g.start) (room : g.size ≤ m.size) (long : g.size ≤ length costs) (clear : Clears before costs n) (emptied : Emptied m q) where
  cleared : Clears before costs g.size
  cleared = subst (λ (x : ℕ). Clears before costs x) sized clear

  -- without an estimate of the start nothing waits
  pub begun_bare : None ≡ g.estimate at → Searching g costs q
  begun_bare lacks =
      begins_bare g law before costs q (omega (arith, emptied.size)) long cleared emptied.bare (ap g.estimate (sym starts) ∙ sym lacks)

  -- the start is offered at cost 0
  pub begun_start : {s : ℕ} → Some s ≡ g.estimate at → s ≤ unknown → {after : List ℕ} {q' : Model} → Lowers costs after q q' at 0 s → Searching g after q'
  begun_start {s} es fits {after} {q'} l =
      let here_lowers : Lowers costs after q q' g.start 0 s = subst (λ (x : ℕ). Lowers costs after q q' x 0 s) starts l in
      let blank = cleared.blank g.start law.start in
      let w = here_lowers.less (omega arith) in
      subst (λ (x : List ℕ). Searching g x q') (sym w.0) (begins_start g law before costs q (omega (arith, emptied.size)) long cleared emptied.bare s (ap g.estimate (sym starts) ∙ sym es) fits q' w.1)
