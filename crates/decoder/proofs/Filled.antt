-- Each estimate is the least metric of words that fill the values after it.
use Rattle.std.proofs.Common.{◌≡◌, ℕ, zero, suc, ◌-◌, ◌<◌, ◌≤◌, List, [], ◌∷◌, length, drop, ℤ, Some, None, Option, refl, ap, subst, ⊎_elim, zero-le, arith, length-append, length-drop}
use Rattle.std.specs.List.{slice_get}
use Rattle.std.proofs.lemmas.List.{get_or_past}
use Rattle.std.proofs.lemmas.Bool.{cases_lt}
use Rattle.codetable.specs.declared.word.Codeword.{Codeword}
use Rattle.codetable.specs.Codewords.{AllFormed}
use Rattle.codetable.specs.Sequences.{bits_at, joined_bits}
use Rattle.codetable.proofs.Sequences.{length_there}
use Rattle.codetable.proofs.Stored.{nth_within, nth_there}
use Rattle.decoder.specs.Metrics.{metric}
use Rattle.decoder.specs.Estimates.{Fills, LeastFill, IsEstimate, first_words, estimates, estimate, EstimatesAreLeast}
use Rattle.decoder.specs.Laws.{AtMost, first_words_most, first_words_from}
use Rattle.decoder.proofs.Sums.{metric_nil, metric_cons}

module _ (ws : List Codeword) where
  length-estimates : (vs : List ℤ) → length (estimates ws vs) ≡ suc (length vs)
  unfolding estimates
  length-estimates [] = refl
  length-estimates (v ∷ vs) = ap suc (length-estimates vs)

  -- there is no estimate past the last value
  pub estimate_past : (vs : List ℤ) (n : ℕ) → length vs < n → estimate ws vs n ≡ None
  estimate_past vs n past = let long = length-estimates vs in get_or_past (estimates ws vs) n None (omega arith)

  -- an estimate is there and at most the metric of words that fill the values
  at_most : (vs : List ℤ) (o : Option ℕ) → IsEstimate ws vs o → (ks : List ℕ) → Fills ws vs ks → AtMost o (metric ws vs ks)
  at_most vs None est ks fills = absurd (est ks fills)
  at_most vs (Some e) est ks fills = (e, refl, est.least ks fills)

  -- what is attained if there, and there and least of all that fill, is an estimate
  is_estimate : (vs : List ℤ) (o : Option ℕ) → ((e : ℕ) → o ≡ Some e → (ks : List ℕ) × Fills ws vs ks × (metric ws vs ks ≡ e)) → ((ks : List ℕ) → Fills ws vs ks → AtMost o (metric ws vs ks)) → IsEstimate ws vs o
  is_estimate vs None attained least = λ ks fills. let x = least ks fills in let is = x.1 in let z : ◌≡◌ {A = ℕ} 0 1 = cc in omega arith
  is_estimate vs (Some e) attained least =
      record {
        attained = attained e refl;
        least = λ ks fills. let x = least ks fills in let is = x.1 in let same : e ≡ x.0 = cc in omega (arith, x.2);
      }

  -- one word before words that fill the rest
  fills_cons : (vs : List ℤ) (k : ℕ) (ks : List ℕ) (w : Codeword) → slice_get ws k ≡ Some w → w.len ≤ length vs → Fills ws (drop w.len vs) ks → Fills ws vs (k ∷ ks)
  fills_cons vs k ks w at_k short fills =
      let sum = length-append (bits_at ws k) (joined_bits ws ks) in
      let here = length_there ws k w at_k in
      let rest = length-drop w.len vs in
      record { words = (nth_within ws k w at_k, fills.words); bits = omega (arith, fills.bits) }

  -- the words behind the first fill the rest
  fills_tail : (vs : List ℤ) (k : ℕ) (ks : List ℕ) (w : Codeword) → slice_get ws k ≡ Some w → Fills ws vs (k ∷ ks) → (w.len ≤ length vs) × Fills ws (drop w.len vs) ks
  fills_tail vs k ks w at_k fills =
      let sum = length-append (bits_at ws k) (joined_bits ws ks) in
      let here = length_there ws k w at_k in
      let rest = length-drop w.len vs in
      let all = fills.bits in
      (omega arith, record { words = fills.words.1; bits = omega arith })

  module _ (formed : AllFormed ws) where
    -- one value more, before values whose estimates are least
    module _ (v : ℤ) (vs : List ℤ) (after : EstimatesAreLeast ws vs) where
      -- what is left after a word that is not too long
      left_after : (w : Codeword) → 1 ≤ w.len → w.len ≤ suc (length vs) → IsEstimate ws (drop w.len (v ∷ vs)) (estimate ws vs (w.len - 1))
      left_after w some short =
          let n : suc (w.len - 1) ≡ w.len = omega arith in
          subst (λ (i : ℕ). IsEstimate ws (drop i (v ∷ vs)) (estimate ws vs (w.len - 1))) n (after (w.len - 1) (omega arith))

      attained : (e : ℕ) → first_words ws (v ∷ vs) (estimates ws vs) ≡ Some e → (ks : List ℕ) × Fills ws (v ∷ vs) ks × (metric ws (v ∷ vs) ks ≡ e)
      attained e is =
          let x = first_words_from ws (v ∷ vs) (estimates ws vs) e is in
          let w = x.w in
          let left = x.after in
          let some = (formed x.k w x.at_k).0 in
          let short : w.len ≤ suc (length vs) =
          ⊎_elim
          (λ past. let none = estimate_past vs (w.len - 1) past in let z : ◌≡◌ {A = ℕ} 0 1 = cc in omega arith)
          (λ low. omega arith)
          (cases_lt (length vs) (w.len - 1)) in
          let rest : LeastFill ws (drop w.len (v ∷ vs)) x.f = subst (IsEstimate ws (drop w.len (v ∷ vs))) left (left_after w some short) in
          let ks = rest.attained.0 in
          let sum = metric_cons ws (v ∷ vs) x.k ks w x.at_k in
          (x.k ∷ ks, fills_cons (v ∷ vs) x.k ks w x.at_k short rest.attained.1, omega (arith, rest.attained.2, x.sum))

      least : (ks : List ℕ) → Fills ws (v ∷ vs) ks → AtMost (first_words ws (v ∷ vs) (estimates ws vs)) (metric ws (v ∷ vs) ks)
      least [] fills = absurd (omega (arith, fills.bits))
      least (k ∷ ks) fills =
          let found = nth_there ws k (λ ge. omega (arith, fills.words.0)) in
          let w = found.0 in
          let at_k = found.1 in
          let tail = fills_tail (v ∷ vs) k ks w at_k fills in
          let x = at_most (drop w.len (v ∷ vs)) (estimate ws vs (w.len - 1)) (left_after w (formed k w at_k).0 tail.0) ks tail.1 in
          let y = first_words_most ws (v ∷ vs) (estimates ws vs) k w x.0 at_k x.1 in
          let sum = metric_cons ws (v ∷ vs) k ks w at_k in
          (y.0, y.1, omega (arith, y.2, x.2))

      first_estimate : IsEstimate ws (v ∷ vs) (first_words ws (v ∷ vs) (estimates ws vs))
      first_estimate = is_estimate (v ∷ vs) (first_words ws (v ∷ vs) (estimates ws vs)) attained least

    pub estimates_are_least : (vs : List ℤ) → EstimatesAreLeast ws vs
    unfolding estimates
    estimates_are_least [] zero le = record { attained = ([], record { words = tt; bits = refl }, metric_nil ws []); least = λ ks fills. zero-le }
    estimates_are_least [] (suc j) le = absurd (omega arith)
    estimates_are_least (v ∷ vs) zero le = first_estimate v vs (estimates_are_least vs)
    estimates_are_least (v ∷ vs) (suc j) le = estimates_are_least vs j (omega arith)
