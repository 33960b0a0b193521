-- A list is read back from its end.
use Rattle.std.proofs.Common.{◌≡◌, ℕ, ◌+◌, ◌<◌, ◌≤◌, List, [], ◌∷◌, ◌++◌, length, drop, set, ℤ, Some, sym, ap, ◌∙◌, subst, append_assoc, append-nil, arith}
use Rattle.std.proofs.lemmas.List.{drop-drop, drop-set, drop_all, length-set, nil_from_length}
use Rattle.codetable.specs.declared.word.Codeword.{Codeword}
use Rattle.codetable.specs.Codewords.{bits}
use Rattle.codetable.specs.Sequences.{joined_bits}
use Rattle.codetable.proofs.Stored.{nth_within}
use Rattle.search.specs.Searches.{Opened, cost_at}
use Rattle.decoder.specs.Metrics.{Best, changes, over, changed}
use Rattle.decoder.specs.Trellis.{trellis, trellis_place}
use Rattle.decoder.specs.Laws.{Sound}
use Rattle.decoder.specs.Traces.{Searched, NoneLast, LowestLast}
use Rattle.decoder.proofs.Sums.{over_cons}
use Rattle.decoder.proofs.Paths.{paths_are_lists}
use Rattle.decoder.proofs.Ranked.{best_nil}
use Rattle.decoder.proofs.Traced.{finish_open, has_last, matches_open, traced_best}

-- the words of a list behind a stage are read, and the place of the stage is opened
pub record Reading (ws : List Codeword) (vs : List ℤ) (word_count : ℕ) (costs list : List ℕ) (count j stage : ℕ) : Type 0 where
  pub searched : Searched ws vs word_count costs
  pub few : stage ≤ word_count
  pub within : j ≤ length vs
  pub full : length list ≡ word_count
  pub e : ℕ
  pub opened : Opened (trellis ws vs word_count) (Some searched.limit) (trellis_place stage j) (cost_at costs (trellis_place stage j)) e
  -- the best list to here and the words read are the best list
  pub best : (ks : List ℕ) → Best ws vs j stage ks → Best ws vs (length vs) word_count (ks ++ drop stage list)
  pub counted : count ≡ over changes (joined_bits ws (drop stage list)) (drop j vs)

module _ (ws : List Codeword) (vs : List ℤ) (word_count : ℕ) (s : Sound ws vs word_count) (costs : List ℕ) where
  pub reading_start : Searched ws vs word_count costs → (list : List ℕ) → length list ≡ word_count → Reading ws vs word_count costs list 0 (length vs) word_count
  unfolding over
  reading_start p list full =
      let none = drop_all word_count list (omega arith) in
      let open_there = finish_open ws vs word_count s p.limit p.m p.q p.before costs p.leaves p.least in
      record {
        searched = p;
        few = omega arith;
        within = omega arith;
        full = full;
        e = open_there.0;
        opened = open_there.1;
        best = λ ks b. subst (λ (l : List ℕ). Best ws vs (length vs) word_count l) (sym (ap (λ (l : List ℕ). ks ++ l) none ∙ append-nil ks)) b;
        counted = sym (ap (λ (l : List ℕ). over changes (joined_bits ws l) (drop (length vs) vs)) none);
      }

  pub reading_step : (list : List ℕ) (count j i : ℕ) (found : ℕ × Codeword) → Reading ws vs word_count costs list count j (i + 1) → (l : LowestLast ws vs costs i j found) → Reading ws vs word_count costs (set list i found.0) (count + over changes (bits found.1) (drop l.b vs)) l.b i
  reading_step list count j i found r l =
      let p = r.searched in
      let k = found.0 in
      let w = found.1 in
      let b = l.b in
      let less : i < word_count = omega (arith, r.few) in
      let ends : b + w.len ≤ length vs = omega (arith, r.within, l.bits) in
      let here : (e : ℕ) × Opened (trellis ws vs word_count) (Some p.limit) (trellis_place (i + 1) (b + w.len)) (cost_at costs (trellis_place (i + 1) (b + w.len))) e =
      subst (λ (n : ℕ). (e : ℕ) × Opened (trellis ws vs word_count) (Some p.limit) (trellis_place (i + 1) n) (cost_at costs (trellis_place (i + 1) n)) e) l.bits (r.e, r.opened) in
      let before = matches_open ws vs word_count s p.limit p.m p.q p.before costs p.leaves i b k w less l.there ends here l.last in
      let words = drop-set list i k (omega (arith, r.full)) in
      record {
        searched = p;
        few = omega arith;
        within = omega arith;
        full = length-set list i k ∙ r.full;
        e = before.0;
        opened = before.1;
        best = λ ks best.
            let pushed = traced_best ws vs word_count s p.limit p.m p.q p.before costs p.leaves i b k w ks less l.there ends here l.last (λ n v c lt at_n sum last. l.lowest n v c lt at_n (l.bits ∙ sum) last) best in
            subst (λ (m : List ℕ). Best ws vs (length vs) word_count m) (append_assoc ks (k ∷ []) (drop (i + 1) list) ∙ ap (λ (m : List ℕ). ks ++ m) (sym words)) (r.best (ks ++ k ∷ []) (subst (λ (n : ℕ). Best ws vs n (i + 1) (ks ++ k ∷ [])) (sym l.bits) pushed));
        counted =
            let sum = over_cons changes ws (drop b vs) k (drop (i + 1) list) w l.there in
            let all = ap (λ (m : List ℕ). over changes (joined_bits ws m) (drop b vs)) words in
            let rest = ap (over changes (joined_bits ws (drop (i + 1) list))) (drop-drop w.len b vs ∙ ap (λ (n : ℕ). drop n vs) (sym l.bits)) in
            omega (arith, r.counted);
      }

  -- some word comes last before the first stage
  pub reading_goes : (list : List ℕ) (count j i : ℕ) → Reading ws vs word_count costs list count j (i + 1) → NoneLast ws vs costs i j (length ws) → ⊥
  reading_goes list count j i r none =
      let p = r.searched in
      let last = has_last ws vs word_count s p.limit p.m p.q p.before costs p.leaves i j (omega (arith, r.few)) r.within (r.e, r.opened) in
      let word = last.1 in
      none last.0 word.w word.b (nth_within ws last.0 word.w word.at_k) word.at_k word.sum word.comes_last_lem

  pub reading_end : (list : List ℕ) (count j : ℕ) → Reading ws vs word_count costs list count j 0 → Best ws vs (length vs) word_count list × (count ≡ changed ws vs list)
  reading_end list count j r =
      let path = (paths_are_lists ws vs word_count s).to_list 0 j (cost_at costs (trellis_place 0 j)) (omega arith) r.within r.opened.least.path in
      let nil : path.0 ≡ [] = nil_from_length path.0 path.1.count in
      let none : j ≡ 0 = sym path.1.bits ∙ ap (λ (l : List ℕ). length (joined_bits ws l)) nil in (
        r.best [] (subst (λ (n : ℕ). Best ws vs n 0 []) (sym none) (best_nil ws vs)),
        r.counted ∙ ap (λ (n : ℕ). over changes (joined_bits ws list) (drop n vs)) none,
      )
