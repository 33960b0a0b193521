-- The opened and the waiting places of a search of the trellis, computed and counted.
use Rattle.std.proofs.Common.{◌≡◌, ℕ, zero, suc, ◌+◌, ◌/◌, ◌%◌, ◌<◌, ◌≤◌, cond, leb, ◌⊎◌, List, length, drop, ℤ, Some, None, Option, sym, refl, ap, ◌∙◌, subst, inl, inr, ⊎_elim, arith}
use Rattle.std.proofs.lemmas.Nat.{div-add-mod', div-mul-add, mod-mul-add}
use Rattle.std.proofs.lemmas.Bool.{cases_lt, cases_Bool, cond-true, cond-false, leb-true, le-leb}
use Rattle.codetable.specs.declared.word.Codeword.{Codeword}
use Rattle.queue.specs.Queues.{tally}
use Rattle.search.specs.Graphs.{Edge, Path, LeastCost}
use Rattle.search.specs.Searches.{Opened, Reached, Waiting, Counted, IsOpened, IsWaiting}
use Rattle.search.proofs.Counting.{Tells, counted}
use Rattle.decoder.specs.Estimates.{share, estimates, estimate}
use Rattle.decoder.specs.Trellis.{columns, trellis_place, trellis}
use Rattle.decoder.specs.Steps.{Lays, stepped, edge_at}
use Rattle.decoder.specs.Laws.{Sound, AtMost, laid_words, laid_bits}
use Rattle.decoder.proofs.Filled.{estimate_past}
use Rattle.decoder.proofs.Paths.{paths_are_lists}
use Rattle.worked.proofs.Leasts.{least, least_from, least_most, last_words, last_words_from, last_words_most}

-- the cost of a place that has an estimate and a cost, if their sum is within the limit
unfoldable pub within : ℕ → Option ℕ → Option ℕ → Option ℕ
within limit None o = None
within limit (Some e) None = None
within limit (Some e) (Some c) = cond (leb (c + e) limit) (Some c) None

within_from : (limit : ℕ) (u o : Option ℕ) (c : ℕ) → within limit u o ≡ Some c → (e : ℕ) × (u ≡ Some e) × (o ≡ Some c) × (c + e ≤ limit)
unfolding within
within_from limit None o c is = let z : ◌≡◌ {A = ℕ} 0 1 = cc in absurd (omega arith)
within_from limit (Some e) None c is = let z : ◌≡◌ {A = ℕ} 0 1 = cc in absurd (omega arith)
within_from limit (Some e) (Some d) c is =
    ⊎_elim
    (λ t.
    let there = sym (cond-true (leb (d + e) limit) (Some d) None t) ∙ is in
    let same : d ≡ c = cc in
    let low = leb-true (d + e) limit t in
    (e, refl, there, omega arith))
    (λ f. let none = sym (cond-false (leb (d + e) limit) (Some d) None f) ∙ is in let z : ◌≡◌ {A = ℕ} 0 1 = cc in absurd (omega arith))
    (cases_Bool (leb (d + e) limit))

within_at : (limit : ℕ) (u o : Option ℕ) (c e : ℕ) → u ≡ Some e → o ≡ Some c → c + e ≤ limit → within limit u o ≡ Some c
unfolding within
within_at limit u o c e is-u is-o low =
    ap (λ (x : Option ℕ). within limit x o) is-u
    ∙ ap (within limit (Some e)) is-o
    ∙ cond-true (leb (c + e) limit) (Some c) None (le-leb (c + e) limit low)

-- the cost of an opened place of i words and j bits
unfoldable pub opened_at : List Codeword → List ℤ → ℕ → ℕ → ℕ → Option ℕ
unfolding within least estimates
opened_at ws vs limit i j = within limit (estimate ws vs j) (least ws vs i j)

-- the cost at which a place is reached, if it has an estimate and is not opened
unfoldable pub waits : Option ℕ → Option ℕ → Option ℕ → Option ℕ
waits None o r = None
waits (Some e) None r = r
waits (Some e) (Some c) r = None

-- the cost of a waiting place
unfoldable pub waiting_at : List Codeword → List ℤ → ℕ → ℕ → ℕ → Option ℕ
unfolding waits opened_at last_words estimates
waiting_at ws vs limit zero j = None
waiting_at ws vs limit (suc i) j = waits (estimate ws vs j) (opened_at ws vs limit (suc i) j) (last_words vs j (opened_at ws vs limit i) ws)

known : (o : Option ℕ) → (o ≡ None) ⊎ ((k : ℕ) × (o ≡ Some k))
known None = inl refl
known (Some k) = inr (k, refl)

-- a bit that has an estimate is not past the last value
estimate_inside : (ws : List Codeword) (vs : List ℤ) (j e : ℕ) → estimate ws vs j ≡ Some e → j ≤ length vs
estimate_inside ws vs j e is =
    ⊎_elim
    (λ past. let none = estimate_past ws vs j past in let z : ◌≡◌ {A = ℕ} 0 1 = cc in absurd (omega arith))
    (λ le. le)
    (cases_lt (length vs) j)

module _ (ws : List Codeword) (vs : List ℤ) (word_count : ℕ) (s : Sound ws vs word_count) where
  -- the least metric is the least cost of the place
  place_least : (i j c : ℕ) → i ≤ word_count → j ≤ length vs → least ws vs i j ≡ Some c → LeastCost (trellis ws vs word_count) (trellis_place i j) c
  place_least i j c words bits is =
      let lists = paths_are_lists ws vs word_count s in
      let found = least_from ws vs i j c is in
      record {
        path = subst (Path (trellis ws vs word_count) (trellis_place i j)) found.2 (lists.from_list i j found.0 words bits found.1);
        least = λ d path.
            let other = lists.to_list i j d words bits path in
            let low = least_most ws vs i j other.0 other.1 in
            let is' = low.1 in
            let same : c ≡ low.0 = cc in
            omega (arith, low.2, other.2);
      }

  place_known : (i j c : ℕ) → i ≤ word_count → j ≤ length vs → LeastCost (trellis ws vs word_count) (trellis_place i j) c → least ws vs i j ≡ Some c
  place_known i j c words bits l =
      let lists = paths_are_lists ws vs word_count s in
      let found = lists.to_list i j c words bits l.path in
      let low = least_most ws vs i j found.0 found.1 in
      let there = place_least i j low.0 words bits low.1 in
      let one = l.least low.0 there.path in
      let other = there.least c l.path in
      let same : low.0 ≡ c = omega arith in
      low.1 ∙ ap Some same

  module _ (limit : ℕ) where
    opened_is : (i j c : ℕ) → i ≤ word_count → opened_at ws vs limit i j ≡ Some c → (e : ℕ) × Opened (trellis ws vs word_count) (Some limit) (trellis_place i j) c e
    unfolding opened_at
    opened_is i j c words is =
        let x = within_from limit (estimate ws vs j) (least ws vs i j) c is in
        let inside = estimate_inside ws vs j x.0 x.1 in
        let few = s.few_values in
        let bits = mod-mul-add i columns j (omega arith) in
        (x.0, record { estimate = ap (estimate ws vs) bits ∙ x.1; least = place_least i j c words inside x.2; within = x.3 })

    opened_from : (i j c e : ℕ) → i ≤ word_count → j < columns → Opened (trellis ws vs word_count) (Some limit) (trellis_place i j) c e → opened_at ws vs limit i j ≡ Some c
    unfolding opened_at
    opened_from i j c e words few o =
        let bits = mod-mul-add i columns j few in
        let here : estimate ws vs j ≡ Some e = ap (estimate ws vs) (sym bits) ∙ o.estimate in
        let inside = estimate_inside ws vs j e here in
        within_at limit (estimate ws vs j) (least ws vs i j) c e here (place_known i j c words inside o.least) o.within

    reached_is : (i j c : ℕ) → i < word_count → j ≤ length vs → last_words vs j (opened_at ws vs limit i) ws ≡ Some c → Reached (trellis ws vs word_count) (Some limit) (trellis_place (suc i) j) c
    reached_is i j c words bits is =
        let r = last_words_from vs j (opened_at ws vs limit i) ws c is in
        let sum = r.sum in
        let few = s.few_values in
        let opening = opened_is i r.b r.x (omega arith) r.before in
        let edge = edge_at ws vs word_count i r.b r.k r.w words (omega arith) r.at_k (omega arith) in
        let place : trellis_place (i + 1) (r.b + r.w.len) ≡ trellis_place (suc i) j = omega arith in
        record {
          from = trellis_place i r.b;
          cost = r.x;
          estimate = opening.0;
          opened = opening.1;
          edge_cost = share r.w (drop r.b vs);
          edge = subst (λ (q : ℕ). Edge (trellis ws vs word_count) (trellis_place i r.b) q (share r.w (drop r.b vs))) place edge;
          sum = r.cost;
        }

    -- what an edge to a place says of where it comes from
    module _ (i j c : ℕ) (few : j < columns) (r : Reached (trellis ws vs word_count) (Some limit) (trellis_place i j) c) where
      abbrev step : (r.from / columns < word_count) × Lays ws vs (r.from / columns) (r.from % columns) (trellis_place i j) r.edge_cost
      step = stepped ws vs word_count r.from (trellis_place i j) r.edge_cost r.edge

      from_words : i ≡ r.from / columns + 1
      from_words = sym (div-mul-add i columns j few) ∙ laid_words ws vs word_count s step.1

      from_bits : j ≡ r.from % columns + step.1.w.len
      from_bits = sym (mod-mul-add i columns j few) ∙ laid_bits ws vs word_count s step.1

    reached_from : (i j c : ℕ) → j < columns → Reached (trellis ws vs word_count) (Some limit) (trellis_place (suc i) j) c → AtMost (last_words vs j (opened_at ws vs limit i) ws) c
    reached_from i j c few r =
        let laid = step (suc i) j c few r in
        let words = from_words (suc i) j c few r in
        let bits = from_bits (suc i) j c few r in
        let b = r.from % columns in
        let before : r.from / columns ≡ i = omega arith in
        let place : r.from ≡ trellis_place i b = omega (arith, div-add-mod' r.from columns) in
        let opening = opened_from i b r.cost r.estimate (omega (arith, laid.0)) (omega arith) (subst (λ (p : ℕ). Opened (trellis ws vs word_count) (Some limit) p r.cost r.estimate) place r.opened) in
        let low = last_words_most vs j (opened_at ws vs limit i) ws laid.1.k laid.1.w b r.cost laid.1.at_k bits opening in
        (low.0, low.1, omega (arith, low.2, r.sum, laid.1.costs))

    tells_opened : (i j : ℕ) → i ≤ word_count → j < columns → Tells (IsOpened (trellis ws vs word_count) (Some limit) (trellis_place i j)) (opened_at ws vs limit i j)
    tells_opened i j words few =
        ⊎_elim
        (λ none. inr (λ o. let is = opened_from i j o.0 o.1 words few o.2 in let z : ◌≡◌ {A = ℕ} 0 1 = cc in omega arith, none))
        (λ x. let opening = opened_is i j x.0 words x.1 in inl ((x.0, opening.0, opening.1), x.0, x.1))
        (known (opened_at ws vs limit i j))

    -- a place waits: it has an estimate, is not opened, and is reached
    waits_from : (u o r : Option ℕ) (c : ℕ) → waits u o r ≡ Some c → (e : ℕ) × (u ≡ Some e) × (o ≡ None) × (r ≡ Some c)
    unfolding waits
    waits_from None o r c is = let z : ◌≡◌ {A = ℕ} 0 1 = cc in absurd (omega arith)
    waits_from (Some e) None r c is = (e, refl, refl, is)
    waits_from (Some e) (Some d) r c is = let z : ◌≡◌ {A = ℕ} 0 1 = cc in absurd (omega arith)

    waits_at : (u o r : Option ℕ) (c e : ℕ) → u ≡ Some e → o ≡ None → r ≡ Some c → waits u o r ≡ Some c
    unfolding waits
    waits_at u o r c e is-u is-o is-r = ap (λ (x : Option ℕ). waits x o r) is-u ∙ ap (λ (x : Option ℕ). waits (Some e) x r) is-o ∙ is-r

    waiting_is : (i j c : ℕ) → i < word_count → j < columns → waiting_at ws vs limit (suc i) j ≡ Some c → IsWaiting (trellis ws vs word_count) (Some limit) (trellis_place (suc i) j)
    unfolding waiting_at
    waiting_is i j c words few is =
        let r = last_words vs j (opened_at ws vs limit i) ws in
        let x = waits_from (estimate ws vs j) (opened_at ws vs limit (suc i) j) r c is in
        let none = x.2 in
        let there = x.3 in
        let bits = mod-mul-add (suc i) columns j few in (
          c,
          x.0,
          record {
            estimate = ap (estimate ws vs) bits ∙ x.1;
            unopened = λ d f o. let opening = opened_from (suc i) j d f words few o in let z : ◌≡◌ {A = ℕ} 0 1 = cc in omega arith;
            reached = reached_is i j c words (estimate_inside ws vs j x.0 x.1) there;
            least = λ d reached.
                let low = reached_from i j d few reached in
                let is' = low.1 in
                let same : c ≡ low.0 = cc in
                omega (arith, low.2);
          },
        )

    waiting_from : (i j c e : ℕ) → i ≤ word_count → j < columns → Waiting (trellis ws vs word_count) (Some limit) (trellis_place i j) c e → (d : ℕ) × (waiting_at ws vs limit i j ≡ Some d)
    unfolding waiting_at
    waiting_from zero j c e words few w = absurd (omega (arith, from_words zero j c few w.reached))
    waiting_from (suc i) j c e words few w =
        let bits = mod-mul-add (suc i) columns j few in
        let here : estimate ws vs j ≡ Some e = ap (estimate ws vs) (sym bits) ∙ w.estimate in
        let low = reached_from i j c few w.reached in
        let shut : opened_at ws vs limit (suc i) j ≡ None =
        ⊎_elim
        (λ none. none)
        (λ x. let opening = opened_is (suc i) j x.0 words x.1 in absurd (w.unopened x.0 opening.0 opening.1))
        (known (opened_at ws vs limit (suc i) j)) in
        (low.0, waits_at (estimate ws vs j) (opened_at ws vs limit (suc i) j) (last_words vs j (opened_at ws vs limit i) ws) low.0 e here shut low.1)

    waiting_there : (i j c : ℕ) → i ≤ word_count → j < columns → waiting_at ws vs limit i j ≡ Some c → IsWaiting (trellis ws vs word_count) (Some limit) (trellis_place i j)
    unfolding waiting_at
    waiting_there zero j c words few is = let z : ◌≡◌ {A = ℕ} 0 1 = cc in absurd (omega arith)
    waiting_there (suc i) j c words few is = waiting_is i j c words few is

    tells_waiting : (i j : ℕ) → i ≤ word_count → j < columns → Tells (IsWaiting (trellis ws vs word_count) (Some limit) (trellis_place i j)) (waiting_at ws vs limit i j)
    tells_waiting i j words few =
        ⊎_elim
        (λ none. inr (λ w. let is = (waiting_from i j w.0 w.1 words few w.2).1 in let z : ◌≡◌ {A = ℕ} 0 1 = cc in omega arith, none))
        (λ x. inl (waiting_there i j x.0 words few x.1, x.0, x.1))
        (known (waiting_at ws vs limit i j))

    -- what is told by words and bits is told by places
    by_place : (P : ℕ → Type 0) (f : ℕ → ℕ → Option ℕ) → ((i j : ℕ) → i ≤ word_count → j < columns → Tells (P (trellis_place i j)) (f i j)) → Counted P (trellis ws vs word_count).size (tally (λ (p : ℕ). f (p / columns) (p % columns)) (trellis ws vs word_count).size)
    by_place P f tells =
        counted P (λ (p : ℕ). f (p / columns) (p % columns)) (trellis ws vs word_count).size
        (λ p less.
        let whole = div-add-mod' p columns in
        let few = s.few_values in
        let place : trellis_place (p / columns) (p % columns) ≡ p = omega arith in
        subst (λ (q : ℕ). Tells (P q) (f (p / columns) (p % columns))) place (tells (p / columns) (p % columns) (omega arith) (omega arith)))

    pub opened_count : Counted (IsOpened (trellis ws vs word_count) (Some limit)) (trellis ws vs word_count).size (tally (λ (p : ℕ). opened_at ws vs limit (p / columns) (p % columns)) (trellis ws vs word_count).size)
    opened_count = by_place (IsOpened (trellis ws vs word_count) (Some limit)) (opened_at ws vs limit) tells_opened

    pub waiting_count : Counted (IsWaiting (trellis ws vs word_count) (Some limit)) (trellis ws vs word_count).size (tally (λ (p : ℕ). waiting_at ws vs limit (p / columns) (p % columns)) (trellis ws vs word_count).size)
    waiting_count = by_place (IsWaiting (trellis ws vs word_count) (Some limit)) (waiting_at ws vs limit) tells_waiting
