-- The least metric of so many words that make so many bits, computed by the word that comes last.
use Rattle.std.proofs.Common.{◌≡◌, ℕ, zero, suc, ◌+◌, ◌-◌, min, cond, eqb, leb, ◌⊎◌, List, [], ◌∷◌, ◌++◌, length, drop, ℤ, Some, None, Option, sym, refl, ap, ◌∙◌, subst, inl, inr, ⊎_elim, zero-le, arith}
use Rattle.std.specs.List.{slice_get}
use Rattle.std.proofs.lemmas.Bool.{cases_lt, cases_eq, cases_Bool, cond-true, cond-false, eq-eqb, ne_eqb, leb-true, le-leb}
use Rattle.codetable.specs.declared.word.Codeword.{Codeword}
use Rattle.decoder.specs.Metrics.{Fits, metric, NoneFits}
use Rattle.decoder.specs.Estimates.{share, extended, lesser}
use Rattle.decoder.specs.Laws.{AtMost}
use Rattle.decoder.proofs.Sums.{metric_nil}
use Rattle.decoder.proofs.Paths.{last_split, fits_as, fits_push, fits_last, metric_on}

min_either : (a b : ℕ) → (min a b ≡ a) ⊎ (min a b ≡ b)
min_either a b = ⊎_elim (λ h. inl (omega arith)) (λ h. inr (omega arith)) (cases_lt a b)

-- the lesser of two is one of them
lesser_either : (a b : Option ℕ) (e : ℕ) → lesser a b ≡ Some e → (a ≡ Some e) ⊎ (b ≡ Some e)
lesser_either None b e is = inr is
lesser_either (Some a) None e is = inl is
lesser_either (Some a) (Some b) e is = ⊎_elim (λ h. inl (ap Some (sym h) ∙ is)) (λ h. inr (ap Some (sym h) ∙ is)) (min_either a b)

lesser_left : (n : ℕ) (b : Option ℕ) → AtMost (lesser (Some n) b) n
lesser_left n None = (n, refl, omega arith)
lesser_left n (Some b) = (min n b, refl, omega arith)

lesser_right : (a : Option ℕ) (n : ℕ) → AtMost (lesser a (Some n)) n
lesser_right None n = (n, refl, omega arith)
lesser_right (Some a) n = (min a n, refl, omega arith)

extended_from : (n : ℕ) (o : Option ℕ) (e : ℕ) → extended n o ≡ Some e → (f : ℕ) × (o ≡ Some f) × (e ≡ n + f)
extended_from n None e is = let z : ◌≡◌ {A = ℕ} 0 1 = cc in absurd (omega arith)
extended_from n (Some f) e is = (f, refl, cc)

-- the cost at bit j where word w comes last; the costs before it are f
unfoldable pub last_word : List ℤ → ℕ → (ℕ → Option ℕ) → Codeword → Option ℕ
last_word vs j f w = cond (leb w.len j) (extended (share w (drop (j - w.len) vs)) (f (j - w.len))) None

-- the least over the words that may come last
unfoldable pub last_words : List ℤ → ℕ → (ℕ → Option ℕ) → List Codeword → Option ℕ
unfolding last_word
last_words vs j f [] = None
last_words vs j f (w ∷ ws) = lesser (last_word vs j f w) (last_words vs j f ws)

-- a word that comes last at bit j, at cost c
pub record Comes (vs : List ℤ) (j : ℕ) (f : ℕ → Option ℕ) (ws : List Codeword) (c : ℕ) : Type 0 where
  pub k : ℕ
  pub w : Codeword
  pub b : ℕ
  pub x : ℕ
  pub at_k : slice_get ws k ≡ Some w
  pub sum : j ≡ b + w.len
  pub before : f b ≡ Some x
  pub cost : c ≡ x + share w (drop b vs)

module _ (vs : List ℤ) (j : ℕ) (f : ℕ → Option ℕ) where
  -- the bits before the last word, and the cost there
  record Before (w : Codeword) (c : ℕ) : Type 0 where
    b : ℕ
    x : ℕ
    sum : j ≡ b + w.len
    before : f b ≡ Some x
    cost : c ≡ x + share w (drop b vs)

  last_from : (w : Codeword) (c : ℕ) → last_word vs j f w ≡ Some c → Before w c
  unfolding last_word
  last_from w c is =
      let b = j - w.len in
      let there = extended (share w (drop b vs)) (f b) in
      ⊎_elim
      (λ t.
      let x = extended_from (share w (drop b vs)) (f b) c (sym (cond-true (leb w.len j) there None t) ∙ is) in
      let short = leb-true w.len j t in
      record { b = b; x = x.0; sum = omega arith; before = x.1; cost = omega (arith, x.2) })
      (λ e. let none = sym (cond-false (leb w.len j) there None e) ∙ is in let z : ◌≡◌ {A = ℕ} 0 1 = cc in absurd (omega arith))
      (cases_Bool (leb w.len j))

  last_at : (w : Codeword) (b x : ℕ) → j ≡ b + w.len → f b ≡ Some x → last_word vs j f w ≡ Some (share w (drop b vs) + x)
  unfolding last_word
  last_at w b x sum before =
      let bits : j - w.len ≡ b = omega arith in
      cond-true (leb w.len j) (extended (share w (drop (j - w.len) vs)) (f (j - w.len))) None (le-leb w.len j (omega arith))
      ∙ ap (λ (n : ℕ). extended (share w (drop n vs)) (f n)) bits
      ∙ ap (extended (share w (drop b vs))) before

  -- the least over the words is the cost of one of them
  pub last_words_from : (ws : List Codeword) (c : ℕ) → last_words vs j f ws ≡ Some c → Comes vs j f ws c
  unfolding last_words
  last_words_from [] c is = let z : ◌≡◌ {A = ℕ} 0 1 = cc in absurd (omega arith)
  last_words_from (w ∷ ws) c is =
      ⊎_elim
      (λ h.
      let r = last_from w c h in
      record { k = zero; w = w; b = r.b; x = r.x; at_k = refl; sum = r.sum; before = r.before; cost = r.cost })
      (λ h.
      let r = last_words_from ws c h in
      record { k = suc r.k; w = r.w; b = r.b; x = r.x; at_k = r.at_k; sum = r.sum; before = r.before; cost = r.cost })
      (lesser_either (last_word vs j f w) (last_words vs j f ws) c is)

  -- and no more than that of any
  pub last_words_most : (ws : List Codeword) (k : ℕ) (w : Codeword) (b x : ℕ) → slice_get ws k ≡ Some w → j ≡ b + w.len → f b ≡ Some x → AtMost (last_words vs j f ws) (x + share w (drop b vs))
  unfolding last_words
  last_words_most [] k w b x at_k sum before = let z : ◌≡◌ {A = ℕ} 0 1 = cc in absurd (omega arith)
  last_words_most (v ∷ ws) zero w b x at_k sum before =
      let word : w ≡ v = cc in
      let rest = last_words vs j f ws in
      let cost : share w (drop b vs) + x ≡ x + share w (drop b vs) = omega arith in
      let here : last_word vs j f v ≡ Some (x + share w (drop b vs)) = ap (last_word vs j f) (sym word) ∙ last_at w b x sum before ∙ ap Some cost in
      subst (λ (o : Option ℕ). AtMost (lesser o rest) (x + share w (drop b vs))) (sym here) (lesser_left (x + share w (drop b vs)) rest)
  last_words_most (v ∷ ws) (suc k) w b x at_k sum before =
      let rest = last_words_most ws k w b x at_k sum before in
      let here = last_word vs j f v in
      let least = lesser_right here rest.0 in
      let low = rest.2 in
      let lower = least.2 in
      (least.0, ap (lesser here) rest.1 ∙ least.1, omega arith)

-- the least metric of i words that make j bits, or none
unfoldable pub least : List Codeword → List ℤ → ℕ → ℕ → Option ℕ
unfolding last_words
least ws vs zero j = cond (eqb j 0) (Some 0) None
least ws vs (suc i) j = last_words vs j (least ws vs i) ws

module _ (ws : List Codeword) (vs : List ℤ) where
  -- it is the metric of a list that fits
  pub least_from : (i j c : ℕ) → least ws vs i j ≡ Some c → (ks : List ℕ) × Fits ws j i ks × (metric ws vs ks ≡ c)
  unfolding least
  least_from zero j c is =
      ⊎_elim
      (λ e.
      let none = sym (cond-true (eqb j 0) (Some 0) None (eq-eqb j 0 e)) ∙ is in
      let free : 0 ≡ c = cc in
      ([], record { words = tt; count = refl; bits = sym e }, metric_nil ws vs ∙ free))
      (λ ne.
      let none = sym (cond-false (eqb j 0) (Some 0) None (ne_eqb j 0 ne)) ∙ is in
      let z : ◌≡◌ {A = ℕ} 0 1 = cc in
      absurd (omega arith))
      (cases_eq j 0)
  least_from (suc i) j c is =
      let r = last_words_from vs j (least ws vs i) ws c is in
      let before = least_from i r.b r.x r.before in
      let more = metric_on ws vs r.b i r.k r.w before.0 r.at_k before.1 in (
        before.0 ++ r.k ∷ [],
        fits_as (sym r.sum) (omega arith) (fits_push ws r.b i r.k r.w before.0 r.at_k before.1),
        omega (arith, before.2, r.cost),
      )

  -- no list that fits has a lesser one
  pub least_most : (i j : ℕ) (ks : List ℕ) → Fits ws j i ks → AtMost (least ws vs i j) (metric ws vs ks)
  unfolding least
  least_most zero j [] f = (0, cond-true (eqb j 0) (Some 0) None (eq-eqb j 0 (sym f.bits)), zero-le)
  least_most zero j (k ∷ ks) f = absurd (omega (arith, f.count))
  least_most (suc i) j ks f =
      ⊎_elim
      (λ none. absurd (omega (arith, f.count, ap length none)))
      (λ e.
      let l = fits_last ws j i e.before e.last (subst (Fits ws j (i + 1)) e.is (fits_as refl (omega arith) f)) in
      let before = least_most i l.b e.before l.fits in
      let low = last_words_most vs j (least ws vs i) ws e.last l.w l.b before.0 l.at_k l.sum before.1 in
      let more = metric_on ws vs l.b i e.last l.w e.before l.at_k l.fits in
      let whole = ap (metric ws vs) e.is in
      (low.0, low.1, omega (arith, low.2, before.2)))
      (last_split ks)

  -- no list fits
  pub none_by : (j i : ℕ) → least ws vs i j ≡ None → NoneFits ws j i
  none_by j i none ks f =
      let low = least_most i j ks f in
      let is = low.1 in
      let z : ◌≡◌ {A = ℕ} 0 1 = cc in
      omega arith
