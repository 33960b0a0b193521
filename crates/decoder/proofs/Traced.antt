-- The best list, read back from the costs that a search leaves.
use Rattle.std.proofs.Common.{◌≡◌, ℕ, ◌+◌, ◌%◌, ◌<◌, ◌≤◌, List, [], ◌∷◌, ◌++◌, length, drop, ℤ, Some, Option, sym, ap, ◌∙◌, subst, ⊎_elim, arith}
use Rattle.std.specs.List.{slice_get}
use Rattle.std.proofs.lemmas.Bool.{cases_lt}
use Rattle.codetable.specs.declared.word.Codeword.{Codeword}
use Rattle.queue.specs.Queues.{Model}
use Rattle.search.specs.Graphs.{Graph, Edge, Path, on, LeastCost, unknown}
use Rattle.search.specs.Searches.{cost_at, Opened, Outcome, opened, waiting, neither, Leaves}
use Rattle.decoder.specs.Metrics.{Fits, metric, Best}
use Rattle.decoder.specs.Estimates.{share, estimate}
use Rattle.decoder.specs.Trellis.{columns, trellis_place, trellis, PathsAreLists}
use Rattle.decoder.specs.Steps.{edge_at}
use Rattle.decoder.specs.Laws.{Sound, trellis_lawful}
use Rattle.decoder.specs.Traces.{ComesLast}
use Rattle.decoder.proofs.Paths.{last_split, fits_last, metric_on, paths_are_lists}
use Rattle.decoder.proofs.Ranked.{best_push, least_metric}

-- a place that is opened has its least cost
told : {g : Graph} {limit : Option ℕ} {p c : ℕ} {key : Option ℕ} → Outcome g limit p c key → (d e : ℕ) → Opened g limit p d e → (f : ℕ) × Opened g limit p c f
told (opened {c} {e} o) d f is = (e, o)
told (waiting w) d f is = absurd (w.unopened d f is)
told (neither not_opened not-waiting) d f is = absurd (not_opened d f is)

module _ (ws : List Codeword) (vs : List ℤ) (word_count : ℕ) (s : Sound ws vs word_count) (limit : ℕ) (m q : Model) (before after : List ℕ) (left : Leaves (trellis ws vs word_count) (Some limit) m q before after) where
  -- the place of i words and j bits is opened, with the cost that the search leaves
  abbrev pub AtOpen : ℕ → ℕ → Type 0
  AtOpen i j = (e : ℕ) × Opened (trellis ws vs word_count) (Some limit) (trellis_place i j) (cost_at after (trellis_place i j)) e

  lists : PathsAreLists ws vs word_count
  lists = paths_are_lists ws vs word_count s

  outcome : (i j : ℕ) → i ≤ word_count → j ≤ length vs → Outcome (trellis ws vs word_count) (Some limit) (trellis_place i j) (cost_at after (trellis_place i j)) (q.key (trellis_place i j))
  outcome i j words bits = left.places (trellis_place i j) (omega arith)

  -- a path within the limit leads to an opened place
  path_open : (i j c e : ℕ) → i ≤ word_count → j ≤ length vs → Path (trellis ws vs word_count) (trellis_place i j) c → estimate ws vs (trellis_place i j % columns) ≡ Some e → c + e ≤ limit → AtOpen i j
  path_open i j c e words bits path ee low =
      let o = left.whole (trellis_place i j) c e path ee low in
      told (outcome i j words bits) o.0 e o.1

  -- the finish is opened, at the limit
  pub finish_open : LeastCost (trellis ws vs word_count) (trellis_place word_count (length vs)) limit → AtOpen word_count (length vs)
  finish_open l = path_open word_count (length vs) limit 0 (omega arith) (omega arith) l.path (trellis_lawful ws vs word_count s).nearest (omega arith)

  -- a word that comes behind a path, and leads to an opened place at its least cost
  module _ (i j k : ℕ) (w : Codeword) (more : i < word_count) (at_k : slice_get ws k ≡ Some w) (within : j + w.len ≤ length vs) (next : AtOpen (i + 1) (j + w.len)) where
    edge : Edge (trellis ws vs word_count) (trellis_place i j) (trellis_place (i + 1) (j + w.len)) (share w (drop j vs))
    edge = let few = s.few_values in edge_at ws vs word_count i j k w more (omega arith) at_k within

    -- the path is opened before the word
    before_open : (c : ℕ) → Path (trellis ws vs word_count) (trellis_place i j) c → c + share w (drop j vs) ≡ cost_at after (trellis_place (i + 1) (j + w.len)) → AtOpen i j
    before_open c path sum =
        let law = trellis_lawful ws vs word_count s in
        let p = trellis_place i j in
        let r = trellis_place (i + 1) (j + w.len) in
        let est = law.estimated p r (share w (drop j vs)) next.0 edge next.1.estimate in
        let low = law.consistent p r (share w (drop j vs)) est.0 next.0 edge est.1 next.1.estimate in
        let within_limit : cost_at after r + next.0 ≤ limit = next.1.within in
        path_open i j c est.0 (omega arith) (omega arith) path est.1 (omega arith)

    -- and at the cost of the path
    before_cost : (c : ℕ) → Path (trellis ws vs word_count) (trellis_place i j) c → c + share w (drop j vs) ≡ cost_at after (trellis_place (i + 1) (j + w.len)) → cost_at after (trellis_place i j) ≡ c
    before_cost c path sum =
        let here_open = before_open c path sum in
        let low = here_open.1.least.least c path in
        let high = next.1.least.least (cost_at after (trellis_place i j) + share w (drop j vs)) (on here_open.1.least.path edge) in
        omega arith

    before_matches : (c : ℕ) → Path (trellis ws vs word_count) (trellis_place i j) c → c + share w (drop j vs) ≡ cost_at after (trellis_place (i + 1) (j + w.len)) → ComesLast vs after i j w
    before_matches c path sum = let same = before_cost c path sum in omega arith

  -- what a list with the cost of an opened place tells of its last word
  pub record Comes (i j k : ℕ) : Type 0 where
    pub w : Codeword
    pub at_k : slice_get ws k ≡ Some w
    pub b : ℕ
    pub sum : j ≡ b + w.len
    pub open_before : AtOpen i b
    pub comes_last_lem : ComesLast vs after i b w

  comes : (i j : ℕ) (ks : List ℕ) (k : ℕ) → i < word_count → j ≤ length vs → AtOpen (i + 1) j → Fits ws j (i + 1) (ks ++ k ∷ []) → metric ws vs (ks ++ k ∷ []) ≡ cost_at after (trellis_place (i + 1) j) → Comes i j k
  comes i j ks k more bits next f cost =
      let l = fits_last ws j i ks k f in
      let w = l.w in
      let b = l.b in
      let sum : j ≡ b + w.len = l.sum in
      let next' : AtOpen (i + 1) (b + w.len) = subst (AtOpen (i + 1)) sum next in
      let within : b + w.len ≤ length vs = omega arith in
      let path = lists.from_list i b ks (omega arith) (omega arith) l.fits in
      let push = metric_on ws vs b i k w ks l.at_k l.fits in
      let same = ap (λ (n : ℕ). cost_at after (trellis_place (i + 1) n)) sum in
      let cost' : metric ws vs ks + share w (drop b vs) ≡ cost_at after (trellis_place (i + 1) (b + w.len)) = omega arith in
      record {
        w = w;
        at_k = l.at_k;
        b = b;
        sum = sum;
        open_before = before_open i b k w more l.at_k within next' (metric ws vs ks) path cost';
        comes_last_lem = before_matches i b k w more l.at_k within next' (metric ws vs ks) path cost';
      }

  -- an opened place behind one word or more has a last word that matches, from an opened place
  pub has_last : (i j : ℕ) → i < word_count → j ≤ length vs → AtOpen (i + 1) j → (k : ℕ) × Comes i j k
  has_last i j more bits next =
      let c = cost_at after (trellis_place (i + 1) j) in
      let found = lists.to_list (i + 1) j c (omega arith) bits next.1.least.path in
      let fits = found.1 in
      ⊎_elim
      (λ none. absurd (omega (arith, fits.count, ap length none)))
      (λ e.
      let x = comes i j e.before e.last more bits next (subst (Fits ws j (i + 1)) e.is fits) (subst (λ (l : List ℕ). metric ws vs l ≡ c) e.is found.2) in
      (e.last, x))
      (last_split found.0)

  -- the cost of an opened place behind a word is known
  known : (i j : ℕ) → i < word_count → j ≤ length vs → AtOpen (i + 1) j → cost_at after (trellis_place (i + 1) j) < unknown
  known i j more bits next =
      let few = s.few_values in
      let last = has_last i j more bits next in
      let h = last.1 in
      let w = h.w in
      let b = h.b in
      let sum : j ≡ b + w.len = h.sum in
      let from : AtOpen i b = h.open_before in
      let cost : ComesLast vs after i b w = h.comes_last_lem in
      let step = edge_at ws vs word_count i b last.0 w more (omega arith) h.at_k (omega arith) in
      let low = (trellis_lawful ws vs word_count s).bounded (trellis_place i b) (trellis_place (i + 1) (b + w.len)) (cost_at after (trellis_place i b)) (share w (drop b vs)) from.1.least step in
      let same : cost_at after (trellis_place (i + 1) j) ≡ cost_at after (trellis_place (i + 1) (b + w.len)) = ap (λ (n : ℕ). cost_at after (trellis_place (i + 1) n)) sum in
      omega arith

  -- what the search leaves at a place whose cost is known and matches
  by_outcome : (i j k : ℕ) (w : Codeword) {c : ℕ} {key : Option ℕ} → i < word_count → slice_get ws k ≡ Some w → j + w.len ≤ length vs → AtOpen (i + 1) (j + w.len) → c + share w (drop j vs) ≡ cost_at after (trellis_place (i + 1) (j + w.len)) → Outcome (trellis ws vs word_count) (Some limit) (trellis_place i j) c key → AtOpen i j
  by_outcome i j k w more at_k within next sum (opened {c} {e} o) = before_open i j k w more at_k within next c o.least.path sum
  by_outcome i j k w more at_k within next sum (waiting {c} {e} x) =
      let r = x.reached in
      let path = subst (Path (trellis ws vs word_count) (trellis_place i j)) (sym r.sum) (on r.opened.least.path r.edge) in
      before_open i j k w more at_k within next c path sum
  by_outcome i j k w more at_k within next sum (neither not_opened not-waiting) =
      let low = known i (j + w.len) more within next in
      absurd (omega arith)

  -- a word that matches comes from an opened place
  pub matches_open : (i j k : ℕ) (w : Codeword) → i < word_count → slice_get ws k ≡ Some w → j + w.len ≤ length vs → AtOpen (i + 1) (j + w.len) → ComesLast vs after i j w → AtOpen i j
  matches_open i j k w more at_k within next sum = by_outcome i j k w more at_k within next sum (outcome i j (omega arith) (omega arith))

  -- the best list with the word of lowest number that matches is the best with one word more
  pub traced_best : (i j k : ℕ) (w : Codeword) (ks : List ℕ) → i < word_count → slice_get ws k ≡ Some w → j + w.len ≤ length vs → AtOpen (i + 1) (j + w.len) → ComesLast vs after i j w → ((k' : ℕ) (w' : Codeword) (b : ℕ) → k' < k → slice_get ws k' ≡ Some w' → j + w.len ≡ b + w'.len → ComesLast vs after i b w' → ⊥) → Best ws vs j i ks → Best ws vs (j + w.len) (i + 1) (ks ++ k ∷ [])
  traced_best i j k w ks more at_k within next sum lowest b =
      let n = j + w.len in
      let here_open = matches_open i j k w more at_k within next sum in
      let cost = least_metric ws vs word_count s i j (cost_at after (trellis_place i j)) ks (omega arith) (omega arith) here_open.1.least b in
      let push = metric_on ws vs j i k w ks at_k b.fits in
      let whole : metric ws vs (ks ++ k ∷ []) ≡ cost_at after (trellis_place (i + 1) n) = omega arith in
      best_push ws vs i j k w ks at_k b
      (λ ls f. let low = next.1.least.least (metric ws vs ls) (lists.from_list (i + 1) n ls (omega arith) within f) in omega arith)
      (λ ls y f same.
      ⊎_elim
      (λ lt.
      let x = comes i n ls y more within next f (same ∙ whole) in
      absurd (lowest y x.w x.b lt x.at_k x.sum x.comes_last_lem))
      (λ ge. ge)
      (cases_lt y k))
