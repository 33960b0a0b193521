-- The best list, by a test of every other list of as many words.
use Rattle.std.proofs.Common.{◌≡◌, ℕ, Bool, true, false, not, ◌&&◌, ◌||◌, eqb, ltb, List, [], ◌∷◌, length, ℤ, sym, refl, ap, inl, inr, ⊎_elim}
use Rattle.std.proofs.lemmas.Bool.{and_parts, or_cases, eqb-true, eqb-false, ltb-true, not-true, false≢true}
use Rattle.codetable.specs.declared.word.Codeword.{Codeword}
use Rattle.codetable.specs.Sequences.{joined_bits}
use Rattle.decoder.specs.Metrics.{Fits, metric, LowerLast, Better, Best}
use Rattle.worked.proofs.Tests.{lists?, at_lists, same?, same_true}
use Rattle.worked.proofs.Tables.{sequence?, is_sequence}

-- the first list has the lower number at the last difference
unfoldable pub lower? : List ℕ → List ℕ → Bool
lower? [] ls = false
lower? (k ∷ ks) [] = false
lower? (k ∷ ks) (l ∷ ls) = lower? ks ls || (same? ks ls && ltb k l)

lower_last : (ks ls : List ℕ) → lower? ks ls ≡ true → LowerLast ks ls
unfolding lower?
lower_last [] ls ok = absurd (false≢true ok)
lower_last (k ∷ ks) [] ok = absurd (false≢true ok)
lower_last (k ∷ ks) (l ∷ ls) ok =
    ⊎_elim
    (λ later.
    let r = lower_last ks ls later in
    record {
      before = k ∷ r.before;
      before' = l ∷ r.before';
      x = r.x;
      y = r.y;
      behind = r.behind;
      one = ap (λ (m : List ℕ). k ∷ m) r.one;
      other = ap (λ (m : List ℕ). l ∷ m) r.other;
      lower = r.lower;
    })
    (λ here.
    let parts = and_parts (same? ks ls) (ltb k l) here in
    record {
      before = [];
      before' = [];
      x = k;
      y = l;
      behind = ks;
      one = refl;
      other = ap (λ (m : List ℕ). l ∷ m) (sym (same_true ks ls parts.0));
      lower = ltb-true k l parts.1;
    })
    (or_cases (lower? ks ls) (same? ks ls && ltb k l) ok)

unfoldable pub better? : List Codeword → List ℤ → List ℕ → List ℕ → Bool
better? ws vs ks ls = ltb (metric ws vs ks) (metric ws vs ls) || (eqb (metric ws vs ks) (metric ws vs ls) && lower? ks ls)

is_better : (ws : List Codeword) (vs : List ℤ) (ks ls : List ℕ) → better? ws vs ks ls ≡ true → Better ws vs ks ls
unfolding better?
is_better ws vs ks ls ok =
    let equal = eqb (metric ws vs ks) (metric ws vs ls) in
    ⊎_elim
    (λ less. inl (ltb-true (metric ws vs ks) (metric ws vs ls) less))
    (λ tie.
    let parts = and_parts equal (lower? ks ls) tie in
    inr (eqb-true (metric ws vs ks) (metric ws vs ls) parts.0, lower_last ks ls parts.1))
    (or_cases (ltb (metric ws vs ks) (metric ws vs ls)) (equal && lower? ks ls) ok)

-- another list has other bits in number, or is the same, or is not as good
unfoldable pub beaten? : List Codeword → List ℤ → ℕ → List ℕ → List ℕ → Bool
beaten? ws vs j ks ls = not (eqb (length (joined_bits ws ls)) j) || (same? ls ks || better? ws vs ks ls)

unfoldable pub best? : List Codeword → List ℤ → ℕ → ℕ → List ℕ → Bool
best? ws vs j n ks =
    sequence? ws ks && (eqb (length ks) n && (eqb (length (joined_bits ws ks)) j && lists? (length ws) n (beaten? ws vs j ks)))

is_beaten : (ws : List Codeword) (vs : List ℤ) (j n : ℕ) (ks ls : List ℕ) → beaten? ws vs j ks ls ≡ true → Fits ws j n ls → (ls ≡ ks → ⊥) → Better ws vs ks ls
unfolding beaten?
is_beaten ws vs j n ks ls ok f differ =
    let bits = eqb (length (joined_bits ws ls)) j in
    ⊎_elim
    (λ other. absurd (eqb-false (length (joined_bits ws ls)) j (not-true bits other) f.bits))
    (λ rest.
    ⊎_elim
    (λ same. absurd (differ (same_true ls ks same)))
    (λ better. is_better ws vs ks ls better)
    (or_cases (same? ls ks) (better? ws vs ks ls) rest))
    (or_cases (not bits) (same? ls ks || better? ws vs ks ls) ok)

pub best_by : (ws : List Codeword) (vs : List ℤ) (j n : ℕ) (ks : List ℕ) → best? ws vs j n ks ≡ true → Best ws vs j n ks
unfolding best?
best_by ws vs j n ks ok =
    let count = eqb (length ks) n in
    let bits = eqb (length (joined_bits ws ks)) j in
    let others = lists? (length ws) n (beaten? ws vs j ks) in
    let a = and_parts (sequence? ws ks) (count && (bits && others)) ok in
    let b = and_parts count (bits && others) a.1 in
    let c = and_parts bits others b.1 in
    record {
      fits = record { words = is_sequence ws ks a.0; count = eqb-true (length ks) n b.0; bits = eqb-true (length (joined_bits ws ks)) j c.0 };
      best = λ ls f differ. is_beaten ws vs j n ks ls (at_lists (length ws) n (beaten? ws vs j ks) c.1 ls f.words f.count) f differ;
    }
