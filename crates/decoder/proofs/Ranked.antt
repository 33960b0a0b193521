-- The best list of words with one word more.
use Rattle.std.proofs.Common.{◌≡◌, ℕ, ◌+◌, ◌≤◌, List, [], ◌∷◌, ◌++◌, length, ℤ, Some, sym, refl, ap, ◌∙◌, subst, inl, inr, ⊎_elim, append_assoc, arith}
use Rattle.std.specs.List.{slice_get}
use Rattle.std.proofs.lemmas.List.{nil_from_length}
use Rattle.std.proofs.lemmas.Bool.{cases_lt}
use Rattle.codetable.specs.declared.word.Codeword.{Codeword}
use Rattle.search.specs.Graphs.{LeastCost}
use Rattle.decoder.specs.Metrics.{Fits, metric, LowerLast, Better, Best}
use Rattle.decoder.specs.Trellis.{trellis_place, trellis}
use Rattle.decoder.specs.Laws.{Sound}
use Rattle.decoder.proofs.Corrected.{same_or_not, better_le}
use Rattle.decoder.proofs.Paths.{last_split, fits_as, fits_push, fits_last, metric_on, paths_are_lists}

-- one word more behind both lists
lower_push : (ks ls : List ℕ) (k : ℕ) → LowerLast ks ls → LowerLast (ks ++ k ∷ []) (ls ++ k ∷ [])
lower_push ks ls k l =
    record {
      before = l.before;
      before' = l.before';
      x = l.x;
      y = l.y;
      behind = l.behind ++ k ∷ [];
      one = ap (λ (m : List ℕ). m ++ k ∷ []) l.one ∙ append_assoc l.before (l.x ∷ l.behind) (k ∷ []);
      other = ap (λ (m : List ℕ). m ++ k ∷ []) l.other ∙ append_assoc l.before' (l.y ∷ l.behind) (k ∷ []);
      lower = l.lower;
    }

module _ (ws : List Codeword) (vs : List ℤ) (i j k : ℕ) (w : Codeword) (ks : List ℕ) (at_k : slice_get ws k ≡ Some w) (b : Best ws vs j i ks) where
  -- a better list stays better with the same word behind both
  better_push : (ls : List ℕ) → Fits ws j i ls → metric ws vs ls ≡ metric ws vs ks → Better ws vs ks ls → Better ws vs (ks ++ k ∷ []) (ls ++ k ∷ [])
  better_push ls f same (inl less) = absurd (omega arith)
  better_push ls f same (inr lower) =
      let one = metric_on ws vs j i k w ks at_k b.fits in
      let other = metric_on ws vs j i k w ls at_k f in
      inr (omega arith, lower_push ks ls k lower.1)

  -- the best list with word k behind it is better than another list that ends in word k
  better_last : (ls : List ℕ) → Fits ws (j + w.len) (i + 1) (ls ++ k ∷ []) → (ls ++ k ∷ [] ≡ ks ++ k ∷ [] → ⊥) → metric ws vs (ls ++ k ∷ []) ≡ metric ws vs (ks ++ k ∷ []) → Better ws vs (ks ++ k ∷ []) (ls ++ k ∷ [])
  better_last ls f differ same =
      let l = fits_last ws (j + w.len) i ls k f in
      let at_l = l.at_k in
      let word : l.w ≡ w = cc in
      let long : l.w.len ≡ w.len = ap (λ (x : Codeword). x.len) word in
      let fits : Fits ws j i ls = fits_as (omega (arith, l.sum)) refl l.fits in
      let one = metric_on ws vs j i k w ks at_k b.fits in
      let other = metric_on ws vs j i k w ls at_k fits in
      better_push ls fits (omega arith) (b.best ls fits (λ e. differ (ap (λ (m : List ℕ). m ++ k ∷ []) e)))

  -- what holds of each other list that fits and has the same metric
  abbrev Beaten : List ℕ → Type 0
  Beaten ls = Fits ws (j + w.len) (i + 1) ls → (ls ≡ ks ++ k ∷ [] → ⊥) → metric ws vs ls ≡ metric ws vs (ks ++ k ∷ []) → Better ws vs (ks ++ k ∷ []) ls

  -- no list of one word more has a lesser metric, and each with the same metric ends in a word with no lower number
  module _ (least : (ls : List ℕ) → Fits ws (j + w.len) (i + 1) ls → metric ws vs (ks ++ k ∷ []) ≤ metric ws vs ls) (lowest : (ls : List ℕ) (y : ℕ) → Fits ws (j + w.len) (i + 1) (ls ++ y ∷ []) → metric ws vs (ls ++ y ∷ []) ≡ metric ws vs (ks ++ k ∷ []) → k ≤ y) where
    beaten_ending : (ls : List ℕ) (y : ℕ) → Beaten (ls ++ y ∷ [])
    beaten_ending ls y f differ same =
        ⊎_elim
        (λ lt. inr (sym same, record { before = ks; before' = ls; x = k; y = y; behind = []; one = refl; other = refl; lower = lt }))
        (λ ge. subst (λ (x : ℕ). Beaten (ls ++ x ∷ [])) (omega (arith, lowest ls y f same)) (better_last ls) f differ same)
        (cases_lt k y)

    beaten : (ls : List ℕ) → Beaten ls
    beaten ls f differ same =
        ⊎_elim
        (λ none. absurd (omega (arith, f.count, ap length none)))
        (λ e. subst Beaten (sym e.is) (beaten_ending e.before e.last) f differ same)
        (last_split ls)

    pub best_push : Best ws vs (j + w.len) (i + 1) (ks ++ k ∷ [])
    best_push =
        record {
          fits = fits_push ws j i k w ks at_k b.fits;
          best = λ ls f differ.
              ⊎_elim
              (λ less. inl less)
              (λ no_less. beaten ls f differ (omega (arith, least ls f)))
              (cases_lt (metric ws vs (ks ++ k ∷ [])) (metric ws vs ls));
        }

-- no list that fits has a lesser metric than the best
pub best_least : (ws : List Codeword) (vs : List ℤ) (j i : ℕ) (ks ls : List ℕ) → Best ws vs j i ks → Fits ws j i ls → metric ws vs ks ≤ metric ws vs ls
best_least ws vs j i ks ls b f =
    ⊎_elim
    (λ same. let equal = ap (metric ws vs) same in omega arith)
    (λ differ. better_le ws vs ks ls (b.best ls f differ))
    (same_or_not ls ks)

-- the metric of the best list is the least cost of its place
pub least_metric : (ws : List Codeword) (vs : List ℤ) (word_count : ℕ) → Sound ws vs word_count → (i j c : ℕ) (ks : List ℕ) → i ≤ word_count → j ≤ length vs → LeastCost (trellis ws vs word_count) (trellis_place i j) c → Best ws vs j i ks → c ≡ metric ws vs ks
least_metric ws vs word_count s i j c ks words bits least b =
    let lists = paths_are_lists ws vs word_count s in
    let found = lists.to_list i j c words bits least.path in
    let low = best_least ws vs j i ks found.0 b found.1 in
    let high = least.least (metric ws vs ks) (lists.from_list i j ks words bits b.fits) in
    omega (arith, found.2)

-- the only list of no words
pub best_nil : (ws : List Codeword) (vs : List ℤ) → Best ws vs 0 0 []
best_nil ws vs =
    record {
      fits = record { words = tt; count = refl; bits = refl };
      best = λ ls f differ. absurd (differ (nil_from_length ls f.count));
    }
