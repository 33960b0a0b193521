-- The paths of the trellis map are lists of words.
use Rattle.std.proofs.Common.{◌≡◌, ℕ, zero, suc, ◌+◌, ◌/◌, ◌%◌, ◌<◌, ◌≤◌, ◌⊎◌, List, [], ◌∷◌, ◌++◌, length, drop, ℤ, Some, sym, refl, ap, ◌∙◌, subst, inl, inr, ⊎_elim, arith, length-append}
use Rattle.std.specs.List.{slice_get}
use Rattle.std.proofs.lemmas.Nat.{div-mul-add, mod-mul-add}
use Rattle.codetable.specs.declared.word.Codeword.{Codeword}
use Rattle.codetable.specs.Sequences.{bits_at, Sequence, joined_bits}
use Rattle.codetable.proofs.Sequences.{length_there, joined_push, sequence_push}
use Rattle.codetable.proofs.Stored.{nth_within, nth_there}
use Rattle.search.specs.Graphs.{Path, here, on}
use Rattle.decoder.specs.Metrics.{Fits, over, weights, metric}
use Rattle.decoder.specs.Estimates.{share}
use Rattle.decoder.specs.Trellis.{columns, trellis_place, trellis, PathsAreLists}
use Rattle.decoder.specs.Steps.{stepped, edge_at}
use Rattle.decoder.specs.Laws.{Sound, laid_words, laid_bits}
use Rattle.decoder.proofs.Sums.{metric_nil, metric_push}

-- a list that ends in a word
pub record Ends (ks : List ℕ) : Type 0 where
  pub before : List ℕ
  pub last : ℕ
  pub is : ks ≡ before ++ last ∷ []

-- a list is empty or ends in a word
pub last_split : (ks : List ℕ) → (ks ≡ []) ⊎ Ends ks
last_split [] = inl refl
last_split (k ∷ ks) =
    ⊎_elim
    (λ none. inr (record { before = []; last = k; is = ap (λ (l : List ℕ). k ∷ l) none }))
    (λ e. inr (record { before = k ∷ e.before; last = e.last; is = ap (λ (l : List ℕ). k ∷ l) e.is }))
    (last_split ks)

-- the words before the last, and the last
sequence_split : (ws : List Codeword) (ks : List ℕ) (k : ℕ) → Sequence ws (ks ++ k ∷ []) → Sequence ws ks × (k < length ws)
sequence_split ws [] k all = (tt, all.0)
sequence_split ws (j ∷ ks) k all = let rest = sequence_split ws ks k all.1 in ((all.0, rest.0), rest.1)

-- a list that fits by equal numbers of bits and words
pub fits_as : {ws : List Codeword} {j b i n : ℕ} {ks : List ℕ} → j ≡ b → i ≡ n → Fits ws j i ks → Fits ws b n ks
fits_as bits count f = record { words = f.words; count = f.count ∙ count; bits = f.bits ∙ bits }

-- one word behind a list that fits
pub fits_push : (ws : List Codeword) (j i k : ℕ) (w : Codeword) (ks : List ℕ) → slice_get ws k ≡ Some w → Fits ws j i ks → Fits ws (j + w.len) (i + 1) (ks ++ k ∷ [])
fits_push ws j i k w ks at_k f =
    let sum = length-append (joined_bits ws ks) (bits_at ws k) in
    let push = ap length (joined_push ws ks k) in
    let long = length_there ws k w at_k in
    record { words = sequence_push ws ks k f.words (nth_within ws k w at_k); count = let more = length-append ks (k ∷ []) in omega (arith, f.count); bits = omega (arith, f.bits) }

-- the last word of a list that fits, and the list before it
pub record Last (ws : List Codeword) (j i : ℕ) (ks : List ℕ) (k : ℕ) : Type 0 where
  pub w : Codeword
  pub at_k : slice_get ws k ≡ Some w
  pub b : ℕ
  pub sum : j ≡ b + w.len
  pub fits : Fits ws b i ks

pub fits_last : (ws : List Codeword) (j i : ℕ) (ks : List ℕ) (k : ℕ) → Fits ws j (i + 1) (ks ++ k ∷ []) → Last ws j i ks k
fits_last ws j i ks k f =
    let split = sequence_split ws ks k f.words in
    let found = nth_there ws k (λ ge. omega (arith, split.1)) in
    let sum = length-append (joined_bits ws ks) (bits_at ws k) in
    let push = ap length (joined_push ws ks k) in
    let long = length_there ws k found.0 found.1 in
    record { w = found.0; at_k = found.1; b = length (joined_bits ws ks); sum = omega (arith, f.bits); fits = record { words = split.0; count = let more = length-append ks (k ∷ []) in omega (arith, f.count); bits = refl } }

-- the metric of a list that fits with one word more
pub metric_on : (ws : List Codeword) (vs : List ℤ) (j i k : ℕ) (w : Codeword) (ks : List ℕ) → slice_get ws k ≡ Some w → Fits ws j i ks → metric ws vs (ks ++ k ∷ []) ≡ metric ws vs ks + share w (drop j vs)
metric_on ws vs j i k w ks at_k f =
    metric_push ws vs ks k w at_k ∙ ap (λ (n : ℕ). metric ws vs ks + share w (drop n vs)) f.bits

module _ (ws : List Codeword) (vs : List ℤ) (word_count : ℕ) (s : Sound ws vs word_count) where
  -- what a path to a place stands for
  record Stands (p c : ℕ) : Type 0 where
    ks : List ℕ
    fits : Fits ws (p % columns) (p / columns) ks
    cost : metric ws vs ks ≡ c

  stands : {p c : ℕ} → Path (trellis ws vs word_count) p c → Stands p c
  stands here = record { ks = []; fits = record { words = tt; count = refl; bits = refl }; cost = metric_nil ws vs }
  stands (on {p} {q} {c} {d} path edge) =
      let before = stands path in
      let laid = (stepped ws vs word_count p q d edge).1 in
      let i = p / columns in
      let j = p % columns in
      let more = metric_on ws vs j i laid.k laid.w before.ks laid.at_k before.fits in
      record {
        ks = before.ks ++ laid.k ∷ [];
        fits = fits_as (sym (laid_bits ws vs word_count s laid)) (sym (laid_words ws vs word_count s laid)) (fits_push ws j i laid.k laid.w before.ks laid.at_k before.fits);
        cost = omega (arith, before.cost, laid.costs);
      }

  to_list : (i j c : ℕ) → i ≤ word_count → j ≤ length vs → Path (trellis ws vs word_count) (trellis_place i j) c → (ks : List ℕ) × Fits ws j i ks × (metric ws vs ks ≡ c)
  to_list i j c words bits path =
      let at = stands path in
      let few = s.few_values in
      (at.ks, fits_as (mod-mul-add i columns j (omega arith)) (div-mul-add i columns j (omega arith)) at.fits, at.cost)

  -- a path for a list that fits goes on by one word
  path_push : (i j k : ℕ) (w : Codeword) (ks : List ℕ) → i < word_count → slice_get ws k ≡ Some w → j + w.len ≤ length vs → Fits ws j i ks → Path (trellis ws vs word_count) (trellis_place i j) (metric ws vs ks) → Path (trellis ws vs word_count) (trellis_place (i + 1) (j + w.len)) (metric ws vs (ks ++ k ∷ []))
  path_push i j k w ks more at_k within f path =
      let few = s.few_values in
      let edge = edge_at ws vs word_count i j k w more (omega arith) at_k within in
      subst (Path (trellis ws vs word_count) (trellis_place (i + 1) (j + w.len))) (sym (metric_on ws vs j i k w ks at_k f)) (on path edge)

  from_list : (i j : ℕ) (ks : List ℕ) → i ≤ word_count → j ≤ length vs → Fits ws j i ks → Path (trellis ws vs word_count) (trellis_place i j) (metric ws vs ks)
  unfolding over weights
  from_list zero j [] words bits f = subst (λ (p : ℕ). Path (trellis ws vs word_count) p 0) (omega (arith, f.bits)) here
  from_list zero j (k ∷ ks) words bits f = absurd (omega (arith, f.count))
  from_list (suc i) j ks words bits f =
      ⊎_elim
      (λ none. absurd (omega (arith, f.count, ap length none)))
      (λ e.
      let l = fits_last ws j i e.before e.last (subst (Fits ws j (i + 1)) e.is (fits_as refl (omega arith) f)) in
      let sum = l.sum in
      let path = path_push i l.b e.last l.w e.before (omega arith) l.at_k (omega arith) l.fits (from_list i l.b e.before (omega arith) (omega arith) l.fits) in
      let place : trellis_place (i + 1) (l.b + l.w.len) ≡ trellis_place (suc i) j = omega arith in
      subst (λ (p : ℕ). Path (trellis ws vs word_count) p (metric ws vs ks)) place (subst (λ (m : List ℕ). Path (trellis ws vs word_count) (trellis_place (i + 1) (l.b + l.w.len)) (metric ws vs m)) (sym e.is) path))
      (last_split ks)

  pub paths_are_lists : PathsAreLists ws vs word_count
  paths_are_lists = record { to_list = to_list; from_list = from_list }
