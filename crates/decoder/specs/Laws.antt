-- The trellis map of every table and received sequence keeps the laws of a map.
use Rattle.std.specs.Prelude.{◌≡◌, ℕ, zero, suc, ◌+◌, ◌-◌, ◌*◌, ◌/◌, ◌%◌, ◌<◌, ◌≤◌, min, Bool, ◌⊎◌, List, [], ◌∷◌, length, get_or, drop, ℤ, Some, None, Option, slice_index_or, refl}
use Rattle.std.proofs.Common.{sym, ap, subst, ◌∙◌, inl, inr, ⊎_elim, zero-le, not-suc-le-zero, le_of_suc-le-suc, zero-add, suc-add, arith}
use Rattle.std.specs.List.{slice_get}
use Rattle.std.proofs.lemmas.Nat.{div-mul-add, mod-mul-add}
use Rattle.std.proofs.lemmas.Bool.{cases_lt, cond_both}
use Rattle.codetable.specs.declared.word.Codeword.{Codeword}
use Rattle.codetable.specs.declared.table.CodeTable.{CodeTable}
use Rattle.codetable.specs.Codewords.{bits, most_bits, most_weight, AllFormed, AllWeighed}
use Rattle.codetable.specs.Tables.{words}
use Rattle.codetable.proofs.Bits.{length-bits}
use Rattle.softvalues.specs.declared.received.SoftValues.{SoftValues}
use Rattle.softvalues.specs.Scale.{OnScale, magnitude, most_magnitude}
use Rattle.softvalues.specs.Stored.{AllOnScale, most_values}
use Rattle.softvalues.specs.Received.{values}
use Rattle.softvalues.proofs.Held.{few_values, all_on_scale}
use Rattle.search.specs.Graphs.{Edge, Path, here, on, Lawful, guess, unknown}
use Rattle.decoder.specs.Metrics.{contradicts, penalty, over, most_list}
use Rattle.decoder.specs.Estimates.{share, extended, lesser, first_words, estimates, estimate}
use Rattle.decoder.specs.Trellis.{columns, edges_from, trellis_place, trellis}
use Rattle.decoder.specs.Steps.{Lays, stepped, edges_past}

-- what a table and a received sequence keep, and the most words of a list
pub record Sound (ws : List Codeword) (vs : List ℤ) (word_count : ℕ) : Type 0 where
  pub formed : AllFormed ws
  pub weighed : AllWeighed ws
  pub scaled : AllOnScale vs
  pub few_values : length vs ≤ most_values
  pub few_words : word_count ≤ most_list

pub few_values_of : (s : SoftValues) → length (values s) ≤ most_values
few_values_of = few_values

pub sound_of : (t : CodeTable) (s : SoftValues) (word_count : ℕ) → word_count ≤ most_list → Sound (words t) (values s) word_count
sound_of t s word_count few =
    record { formed = t.formed; weighed = t.weighed; scaled = all_on_scale s; few_values = few_values_of s; few_words = few }

-- the most that a word of n bits adds to a metric
abbrev pub most_share : ℕ → ℕ
most_share n = n * most_magnitude + most_weight

-- the most that a word adds to a metric for each of its bits
abbrev pub most_step : ℕ
most_step = most_magnitude + most_weight

penalty_most : (b : Bool) (v : ℤ) → OnScale v → penalty b v ≤ most_magnitude
penalty_most b v on-scale = cond_both (contradicts b v) (magnitude v) 0 (λ (n : ℕ). n ≤ most_magnitude) (λ e. on-scale) (λ e. zero-le)

pub over_most : (bs : List Bool) (vs : List ℤ) → AllOnScale vs → over penalty bs vs ≤ length bs * most_magnitude
unfolding over
over_most [] vs all = zero-le
over_most (b ∷ bs) [] all = zero-le
over_most (b ∷ bs) (v ∷ vs) all =
    let here_most = penalty_most b v (all zero v refl) in
    let rest = over_most bs vs (λ k. all (suc k)) in
    omega arith

-- a word's share is bounded by its bits
pub share_most : (w : Codeword) (vs : List ℤ) → AllOnScale vs → w.weight ≤ most_weight → share w vs ≤ most_share w.len
share_most w vs all light =
    let most = over_most (bits w) vs all in
    let long = length-bits w.len w.value in
    omega arith

pub on_scale_drop : (j : ℕ) (vs : List ℤ) → AllOnScale vs → AllOnScale (drop j vs)
on_scale_drop zero vs all = all
on_scale_drop (suc j) [] all = all
on_scale_drop (suc j) (v ∷ vs) all = on_scale_drop j vs (λ k. all (suc k))

-- the estimate of no values is 0
pub estimate_end : (ws : List Codeword) (vs : List ℤ) → estimate ws vs (length vs) ≡ Some 0
unfolding estimates
estimate_end ws [] = refl
estimate_end ws (v ∷ vs) = estimate_end ws vs

-- the estimate before a value is that of the words that may come first there
pub estimate_step : (ws : List Codeword) (vs : List ℤ) (j : ℕ) → j < length vs → estimate ws vs j ≡ first_words ws (drop j vs) (estimates ws (drop (suc j) vs))
unfolding estimates
estimate_step ws [] j less = absurd (not-suc-le-zero less)
estimate_step ws (v ∷ vs) zero less = refl
estimate_step ws (v ∷ vs) (suc j) less = estimate_step ws vs j (le_of_suc-le-suc less)

-- the estimates of what is left are those from there on
pub estimate-drop : (ws : List Codeword) (vs : List ℤ) (j n : ℕ) → j ≤ length vs → estimate ws (drop j vs) n ≡ estimate ws vs (j + n)
unfolding estimates
estimate-drop ws vs zero n within = ap (estimate ws vs) (sym (zero-add n))
estimate-drop ws [] (suc j) n within = absurd (not-suc-le-zero within)
estimate-drop ws (v ∷ vs) (suc j) n within = estimate-drop ws vs j n (le_of_suc-le-suc within) ∙ ap (estimate ws (v ∷ vs)) (sym (suc-add j n))

-- an estimate is there, and no more than n
abbrev pub AtMost : Option ℕ → ℕ → Type 0
AtMost o n = (e : ℕ) × (o ≡ Some e) × (e ≤ n)

lesser_left : (n : ℕ) (b : Option ℕ) → AtMost (lesser (Some n) b) n
lesser_left n None = (n, refl, omega arith)
lesser_left n (Some b) = (min n b, refl, omega arith)

lesser_right : (a : Option ℕ) (n : ℕ) → AtMost (lesser a (Some n)) n
lesser_right None n = (n, refl, omega arith)
lesser_right (Some a) n = (min a n, refl, omega arith)

-- the least over the words is at most what any of them gives
pub first_words_most : (ws : List Codeword) (vs : List ℤ) (es : List (Option ℕ)) (k : ℕ) (w : Codeword) (f : ℕ) → slice_get ws k ≡ Some w → slice_index_or es (w.len - 1) None ≡ Some f → AtMost (first_words ws vs es) (share w vs + f)
unfolding first_words
first_words_most [] vs es k w f at_k ef = let z : ◌≡◌ {A = ℕ} 0 1 = cc in absurd (omega arith)
first_words_most (x ∷ ws) vs es zero w f at_k ef =
    let word : w ≡ x = cc in
    let left : extended (share x vs) (slice_index_or es (x.len - 1) None) ≡ Some (share w vs + f) = ap (λ (y : Codeword). extended (share y vs) (slice_index_or es (y.len - 1) None)) (sym word) ∙ ap (extended (share w vs)) ef in
    subst (λ (o : Option ℕ). AtMost (lesser o (first_words ws vs es)) (share w vs + f)) (sym left) (lesser_left (share w vs + f) (first_words ws vs es))
first_words_most (x ∷ ws) vs es (suc k) w f at_k ef =
    let left = extended (share x vs) (slice_index_or es (x.len - 1) None) in
    let rest = first_words_most ws vs es k w f at_k ef in
    let least = lesser_right left rest.0 in
    let low = rest.2 in
    let lower = least.2 in
    (least.0, ap (lesser left) rest.1 ∙ least.1, omega arith)

-- a word that gives the least over the words
pub record Gives (ws : List Codeword) (vs : List ℤ) (es : List (Option ℕ)) (e : ℕ) : Type 0 where
  pub k : ℕ
  pub w : Codeword
  pub f : ℕ
  pub at_k : slice_get ws k ≡ Some w
  pub after : get_or es (w.len - 1) None ≡ Some f
  pub sum : e ≡ share w vs + f

min_either : (a b : ℕ) → (min a b ≡ a) ⊎ (min a b ≡ b)
min_either a b = ⊎_elim (λ h. inl (omega arith)) (λ h. inr (omega arith)) (cases_lt a b)

-- the lesser of two is one of them
lesser_either : (a b : Option ℕ) (e : ℕ) → lesser a b ≡ Some e → (a ≡ Some e) ⊎ (b ≡ Some e)
lesser_either None b e is = inr is
lesser_either (Some a) None e is = inl is
lesser_either (Some a) (Some b) e is = ⊎_elim (λ h. inl (ap Some (sym h) ∙ is)) (λ h. inr (ap Some (sym h) ∙ is)) (min_either a b)

extended_from : (n : ℕ) (o : Option ℕ) (e : ℕ) → extended n o ≡ Some e → (f : ℕ) × (o ≡ Some f) × (e ≡ n + f)
extended_from n None e is = let z : ◌≡◌ {A = ℕ} 0 1 = cc in absurd (omega arith)
extended_from n (Some f) e is = (f, refl, cc)

-- the least over the words is what one of them gives
pub first_words_from : (ws : List Codeword) (vs : List ℤ) (es : List (Option ℕ)) (e : ℕ) → first_words ws vs es ≡ Some e → Gives ws vs es e
unfolding first_words
first_words_from [] vs es e is = let z : ◌≡◌ {A = ℕ} 0 1 = cc in absurd (omega arith)
first_words_from (w ∷ ws) vs es e is =
    ⊎_elim
    (λ h.
    let there = extended_from (share w vs) (slice_index_or es (w.len - 1) None) e h in
    record { k = zero; w = w; f = there.0; at_k = refl; after = there.1; sum = there.2 })
    (λ h.
    let r = first_words_from ws vs es e h in
    record { k = suc r.k; w = r.w; f = r.f; at_k = r.at_k; after = r.after; sum = r.sum })
    (lesser_either (extended (share w vs) (slice_index_or es (w.len - 1) None)) (first_words ws vs es) e is)

-- an estimate is bounded by the values after it
pub estimate_most : (ws : List Codeword) (vs : List ℤ) → AllFormed ws → AllWeighed ws → AllOnScale vs → (n e : ℕ) → estimate ws vs n ≡ Some e → e + n * most_step ≤ length vs * most_step
unfolding estimates
estimate_most ws [] formed weighed scaled zero e is = let none : e ≡ 0 = cc in omega arith
estimate_most ws [] formed weighed scaled (suc n) e is = let z : ◌≡◌ {A = ℕ} 0 1 = cc in absurd (omega arith)
estimate_most ws (v ∷ vs) formed weighed scaled zero e is =
    let g = first_words_from ws (v ∷ vs) (estimates ws vs) e is in
    let rest = estimate_most ws vs formed weighed (λ k. scaled (suc k)) (g.w.len - 1) g.f g.after in
    let most = share_most g.w (v ∷ vs) scaled (weighed g.k g.w g.at_k) in
    let some = (formed g.k g.w g.at_k).0 in
    let sum = g.sum in
    omega arith
estimate_most ws (v ∷ vs) formed weighed scaled (suc n) e is =
    let rest = estimate_most ws vs formed weighed (λ k. scaled (suc k)) n e is in
    omega arith

guess_most : (o : Option ℕ) (m : ℕ) → ((e : ℕ) → o ≡ Some e → e ≤ m) → guess o ≤ m
guess_most None m bound = zero-le
guess_most (Some e) m bound = bound e refl

-- the estimate before a word that fits is at most its share and the estimate behind it
pub estimate_word : (ws : List Codeword) (vs : List ℤ) (j k : ℕ) (w : Codeword) (f : ℕ) → slice_get ws k ≡ Some w → 1 ≤ w.len → j + w.len ≤ length vs → estimate ws vs (j + w.len) ≡ Some f → AtMost (estimate ws vs j) (share w (drop j vs) + f)
estimate_word ws vs j k w f at_k some within ef =
    let place : suc j + (w.len - 1) ≡ j + w.len = omega arith in
    let after : get_or (estimates ws (drop (suc j) vs)) (w.len - 1) None ≡ Some f = estimate-drop ws vs (suc j) (w.len - 1) (omega arith) ∙ ap (estimate ws vs) place ∙ ef in
    subst (λ (o : Option ℕ). AtMost o (share w (drop j vs) + f)) (sym (estimate_step ws vs j (omega arith))) (first_words_most ws (drop j vs) (estimates ws (drop (suc j) vs)) k w f at_k after)

module _ (ws : List Codeword) (vs : List ℤ) (word_count : ℕ) (s : Sound ws vs word_count) where
  -- a word that is laid leads one word on, by its bits
  pub laid_words : {i j q d : ℕ} → Lays ws vs i j q d → q / columns ≡ i + 1
  laid_words {i} {j} {q} {d} m =
      let few = s.few_values in
      let within = m.within in
      ap (λ (p : ℕ). p / columns) m.leads ∙ div-mul-add (i + 1) columns (j + m.w.len) (omega arith)

  pub laid_bits : {i j q d : ℕ} (m : Lays ws vs i j q d) → q % columns ≡ j + m.w.len
  laid_bits {i} {j} {q} {d} m =
      let few = s.few_values in
      let within = m.within in
      ap (λ (p : ℕ). p % columns) m.leads ∙ mod-mul-add (i + 1) columns (j + m.w.len) (omega arith)

  laid_costs : {i j q d : ℕ} → Lays ws vs i j q d → d ≤ most_share most_bits
  laid_costs {i} {j} {q} {d} m =
      let most = share_most m.w (drop j vs) (on_scale_drop j vs s.scaled) (s.weighed m.k m.w m.at_k) in
      let short = (s.formed m.k m.w m.at_k).1 in
      let costs = m.costs in
      omega arith

  laid_inside : {i j q d : ℕ} → i < word_count → Lays ws vs i j q d → q ≤ trellis_place word_count (length vs)
  laid_inside {i} {j} {q} {d} less m =
      let leads = m.leads in
      let within = m.within in
      omega arith

  -- the estimate before an edge is at most the edge's cost and the estimate behind it
  laid_estimate : {i j q d : ℕ} → Lays ws vs i j q d → (f : ℕ) → estimate ws vs (q % columns) ≡ Some f → AtMost (estimate ws vs j) (d + f)
  laid_estimate {i} {j} {q} {d} m f ef =
      let there = estimate_word ws vs j m.k m.w f m.at_k (s.formed m.k m.w m.at_k).0 m.within (ap (estimate ws vs) (sym (laid_bits m)) ∙ ef) in
      subst (λ (c : ℕ). AtMost (estimate ws vs j) (c + f)) (sym m.costs) there

  -- a path costs no more than the dearest word for each of its words
  path_most : {p c : ℕ} → Path (trellis ws vs word_count) p c → c ≤ p / columns * most_share most_bits
  path_most here = zero-le
  path_most (on {p} {q} {c} {d} path edge) =
      let before = path_most path in
      let laid = (stepped ws vs word_count p q d edge).1 in
      let words_more = laid_words laid in
      let cost = laid_costs laid in
      omega arith

  trellis_ends : edges_from ws vs word_count (trellis_place word_count (length vs)) ≡ []
  trellis_ends =
      let few = s.few_values in
      let all = div-mul-add word_count columns (length vs) (omega arith) in
      edges_past ws vs word_count (trellis_place word_count (length vs)) (omega arith)

  trellis_bounded : (p q c d : ℕ) → Path (trellis ws vs word_count) p c → Edge (trellis ws vs word_count) p q d → c + d + guess (estimate ws vs (q % columns)) < unknown
  trellis_bounded p q c d path edge =
      let before = path_most path in
      let step = stepped ws vs word_count p q d edge in
      let less = step.0 in
      let cost = laid_costs step.1 in
      let few = s.few_values in
      let few_words = s.few_words in
      let rest = guess_most (estimate ws vs (q % columns)) (length vs * most_step) (λ e is. let most = estimate_most ws vs s.formed s.weighed s.scaled (q % columns) e is in omega arith) in
      omega arith

pub trellis_lawful : (ws : List Codeword) (vs : List ℤ) (word_count : ℕ) → Sound ws vs word_count → Lawful (trellis ws vs word_count)
trellis_lawful ws vs word_count s =
    record {
      start = omega arith;
      finish = omega arith;
      inside = λ p q c e. let step = stepped ws vs word_count p q c e in let low = laid_inside ws vs word_count s step.0 step.1 in omega arith;
      nearest = let few = s.few_values in ap (estimate ws vs) (mod-mul-add word_count columns (length vs) (omega arith)) ∙ estimate_end ws vs;
      ends = trellis_ends ws vs word_count s;
      estimated = λ p q c f e ef. let there = laid_estimate ws vs word_count s (stepped ws vs word_count p q c e).1 f ef in (there.0, there.1);
      consistent = λ p q c e f edge ee ef.
          let there = laid_estimate ws vs word_count s (stepped ws vs word_count p q c edge).1 f ef in
          let same : e ≡ there.0 = cc there.1 in
          let low = there.2 in
          omega arith;
      bounded = λ p q c d least e. trellis_bounded ws vs word_count s p q c d least.path e;
    }
