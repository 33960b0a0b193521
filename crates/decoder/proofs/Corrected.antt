-- The best list is the sent one if the values contradict it by less than half the free distance.
use Rattle.std.proofs.Common.{◌≡◌, ℕ, suc, ◌+◌, ◌*◌, ◌≤◌, Bool, true, false, ◌⊎◌, List, [], ◌∷◌, length, ℤ, pos, negsuc, Some, sym, refl, ◌∙◌, inl, inr, ⊎_elim, mul-le-mul_left, mul-add, arith}
use Rattle.std.specs.List.{slice_get}
use Rattle.std.proofs.lemmas.Bool.{cases_eq}
use Rattle.codetable.specs.declared.word.Codeword.{Codeword}
use Rattle.codetable.specs.Sequences.{Sequence, joined_bits}
use Rattle.codetable.proofs.Stored.{nth_there}
use Rattle.softvalues.specs.Scale.{magnitude}
use Rattle.distance.specs.Distances.{differing, hamming, Rivals}
use Rattle.decoder.specs.Metrics.{penalty, over, weights, metric, Better, Best, Corrects}
use Rattle.decoder.proofs.Sums.{weight_there}

-- two lists of numbers are equal or not
pub same_or_not : (ks ls : List ℕ) → (ks ≡ ls) ⊎ (ks ≡ ls → ⊥)
same_or_not [] [] = inl refl
same_or_not [] (l ∷ ls) = inr (λ e. let z : ◌≡◌ {A = ℕ} 0 1 = cc in omega arith)
same_or_not (k ∷ ks) [] = inr (λ e. let z : ◌≡◌ {A = ℕ} 0 1 = cc in omega arith)
same_or_not (k ∷ ks) (l ∷ ls) =
    ⊎_elim
    (λ same. ⊎_elim (λ rest. inl (cc)) (λ apart. inr (λ e. apart (cc))) (same_or_not ks ls))
    (λ apart. inr (λ e. apart (cc)))
    (cases_eq k l)

-- a value contradicts one of two bits that differ
one_pays : (m : ℕ) (a b : Bool) (v : ℤ) → m ≤ magnitude v → m * differing a b ≤ penalty a v + penalty b v
one_pays m false false (pos n) h = omega arith
one_pays m false false (negsuc n) h = omega arith
one_pays m false true (pos n) h = omega arith
one_pays m false true (negsuc n) h = omega arith
one_pays m true false (pos n) h = omega arith
one_pays m true false (negsuc n) h = omega arith
one_pays m true true (pos n) h = omega arith
one_pays m true true (negsuc n) h = omega arith

-- two rows pay together for every place where they differ
rows_pay : (m : ℕ) (xs ys : List Bool) (vs : List ℤ) → length xs ≡ length vs → length ys ≡ length vs → ((i : ℕ) (v : ℤ) → slice_get vs i ≡ Some v → m ≤ magnitude v) → m * hamming xs ys ≤ over penalty xs vs + over penalty ys vs
unfolding hamming over
rows_pay m [] ys vs lx ly strong = omega arith
rows_pay m (x ∷ xs) [] vs lx ly strong = omega arith
rows_pay m (x ∷ xs) (y ∷ ys) [] lx ly strong = absurd (omega arith)
rows_pay m (x ∷ xs) (y ∷ ys) (v ∷ vs) lx ly strong =
    let here = one_pays m x y v (strong 0 v refl) in
    let rest = rows_pay m xs ys vs (omega arith) (omega arith) (λ i u e. strong (suc i) u e) in
    let sum = mul-add m (differing x y) (hamming xs ys) in
    omega arith

-- equally many words of one weight weigh the same
same_weights : (ws : List Codeword) (weight : ℕ) → ((k : ℕ) (w : Codeword) → slice_get ws k ≡ Some w → w.weight ≡ weight) → (ks ls : List ℕ) → Sequence ws ks → Sequence ws ls → length ks ≡ length ls → weights ws ks ≡ weights ws ls
unfolding weights
same_weights ws weight alike [] [] in-k in-l eq = refl
same_weights ws weight alike [] (l ∷ ls) in-k in-l eq = absurd (omega arith)
same_weights ws weight alike (k ∷ ks) [] in-k in-l eq = absurd (omega arith)
same_weights ws weight alike (k ∷ ks) (l ∷ ls) in-k in-l eq =
    let one = nth_there ws k (λ ge. omega (arith, in-k.0)) in
    let other = nth_there ws l (λ ge. omega (arith, in-l.0)) in
    let here = weight_there ws k one.0 one.1 ∙ alike k one.0 one.1 in
    let there = weight_there ws l other.0 other.1 ∙ alike l other.0 other.1 in
    let rest = same_weights ws weight alike ks ls in-k.1 in-l.1 (omega arith) in
    omega arith

pub better_le : (ws : List Codeword) (vs : List ℤ) (ks ls : List ℕ) → Better ws vs ks ls → metric ws vs ks ≤ metric ws vs ls
better_le ws vs ks ls (inl less) = omega arith
better_le ws vs ks ls (inr same) = omega (arith, same.0)

pub corrects : (ws : List Codeword) (vs : List ℤ) (word_count : ℕ) (ks : List ℕ) → Best ws vs (length vs) word_count ks → Corrects ws vs word_count ks
corrects ws vs word_count ks b sent weight m d fits two alike strong free less =
    ⊎_elim
    (λ same. same)
    (λ differ.
    let mine = b.fits in
    let low = better_le ws vs ks sent (b.best sent fits (λ e. differ (sym e))) in
    let equal = same_weights ws weight alike ks sent mine.words fits.words (mine.count ∙ sym fits.count) in
    let rivals : Rivals ws ks sent = record { one = mine.words; other = fits.words; different = differ; equally_long = mine.bits ∙ sym fits.bits } in
    let far = mul-le-mul_left m (free.least ks sent rivals) in
    let pays = rows_pay m (joined_bits ws ks) (joined_bits ws sent) vs mine.bits fits.bits strong in
    absurd (omega arith))
    (same_or_not ks sent)
