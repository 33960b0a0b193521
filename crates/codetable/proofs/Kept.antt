-- What a list of words keeps when it is changed: its words are formed, and none clash.
use Rattle.std.proofs.Common.{◌≡◌, ℕ, zero, suc, ◌≤◌, Bool, ◌⊎◌, List, [], ◌∷◌, ◌++◌, length, take, Some, sym, refl, ap, ◌∙◌, subst, inl, inr, ⊎_elim, arith}
use Rattle.std.specs.List.{slice_get}
use Rattle.codetable.specs.declared.word.Codeword.{Codeword}
use Rattle.codetable.specs.Codewords.{bits, bits_of, largest, most_bits, most_weight, Formed, AllFormed, AllWeighed, Prefix, Clash, Clashes, reweighed}

-- b is a but for its weight
abbrev Alike : Codeword → Codeword → Type 0
Alike a b = (a.len ≡ b.len) × (a.value ≡ b.value)

-- each word of vs is one of ws at the same place, but for its weight
abbrev pub Traced : List Codeword → List Codeword → Type 0
Traced vs ws = (k : ℕ) (b : Codeword) → slice_get vs k ≡ Some b → (a : Codeword) × (slice_get ws k ≡ Some a) × Alike a b

alike_bits : (a b : Codeword) → Alike a b → bits a ≡ bits b
alike_bits a b e = ap (λ (n : ℕ). bits_of n a.value) e.0 ∙ ap (bits_of b.len) e.1

alike_formed : (a b : Codeword) → Alike a b → Formed a → Formed b
alike_formed a b e f =
    subst (λ (v : ℕ). (1 ≤ b.len) × (b.len ≤ most_bits) × (v ≤ largest b.len)) e.1
    (subst (λ (n : ℕ). (1 ≤ n) × (n ≤ most_bits) × (a.value ≤ largest n)) e.0 f)

prefix_same : (a b x y : List Bool) → a ≡ x → b ≡ y → Prefix x y → Prefix a b
prefix_same a b x y e f p = (p.0, f ∙ p.1 ∙ ap (λ (l : List Bool). l ++ p.0) (sym e))

module _ (vs ws : List Codeword) (from : Traced vs ws) where
  pub traced_formed : AllFormed ws → AllFormed vs
  traced_formed f k w e = let t = from k w e in alike_formed t.0 w t.2 (f k t.0 t.1)

  pub traced_apart : (Clash ws → ⊥) → Clash vs → ⊥
  traced_apart free c =
      let s = from c.i c.a c.at_i in
      let t = from c.j c.b c.at_j in
      free (record {
        i = c.i;
        j = c.j;
        a = s.0;
        b = t.0;
        apart = c.apart;
        at_i = s.1;
        at_j = t.1;
        start = prefix_same (bits s.0) (bits t.0) (bits c.a) (bits c.b) (alike_bits s.0 c.a s.2) (alike_bits t.0 c.b t.2) c.start;
      })

-- fewer words
pub take_traced : (n : ℕ) (ws : List Codeword) → Traced (take n ws) ws
take_traced zero ws k b e = absurd (let z : ◌≡◌ {A = ℕ} 0 1 = cc in omega arith)
take_traced (suc n) [] k b e = absurd (let z : ◌≡◌ {A = ℕ} 0 1 = cc in omega arith)
take_traced (suc n) (w ∷ ws) zero b e = (w, refl, (cc, cc))
take_traced (suc n) (w ∷ ws) (suc k) b e = take_traced n ws k b e

-- another weight
pub reweighed_traced : (ws : List Codeword) (j x : ℕ) → Traced (reweighed ws j x) ws
reweighed_traced [] j x k b e = absurd (let z : ◌≡◌ {A = ℕ} 0 1 = cc in omega arith)
reweighed_traced (w ∷ ws) zero x zero b e = (w, refl, (cc, cc))
reweighed_traced (w ∷ ws) zero x (suc k) b e = (b, e, (refl, refl))
reweighed_traced (w ∷ ws) (suc j) x zero b e = (w, refl, (cc, cc))
reweighed_traced (w ∷ ws) (suc j) x (suc k) b e = reweighed_traced ws j x k b e

pub take_weighed : (n : ℕ) (ws : List Codeword) → AllWeighed ws → AllWeighed (take n ws)
take_weighed zero ws f k b e = absurd (let z : ◌≡◌ {A = ℕ} 0 1 = cc in omega arith)
take_weighed (suc n) [] f k b e = absurd (let z : ◌≡◌ {A = ℕ} 0 1 = cc in omega arith)
take_weighed (suc n) (w ∷ ws) f zero b e = f zero b e
take_weighed (suc n) (w ∷ ws) f (suc k) b e = take_weighed n ws (λ j. f (suc j)) k b e

pub reweighed_weighed : (ws : List Codeword) (j x : ℕ) → x ≤ most_weight → AllWeighed ws → AllWeighed (reweighed ws j x)
reweighed_weighed [] j x le f k b e = absurd (let z : ◌≡◌ {A = ℕ} 0 1 = cc in omega arith)
reweighed_weighed (w ∷ ws) zero x le f zero b e = let same : x ≡ b.weight = cc in omega arith
reweighed_weighed (w ∷ ws) zero x le f (suc k) b e = f (suc k) b e
reweighed_weighed (w ∷ ws) (suc j) x le f zero b e = f zero b e
reweighed_weighed (w ∷ ws) (suc j) x le f (suc k) b e = reweighed_weighed ws j x le (λ i. f (suc i)) k b e

-- one word more: it is the last, or an old one
pushed_cases : (ws : List Codeword) (v : Codeword) (k : ℕ) (a : Codeword) → slice_get (ws ++ v ∷ []) k ≡ Some a → (slice_get ws k ≡ Some a) ⊎ ((k ≡ length ws) × (a ≡ v))
pushed_cases [] v zero a e = inr (refl, cc)
pushed_cases [] v (suc k) a e = absurd (let z : ◌≡◌ {A = ℕ} 0 1 = cc in omega arith)
pushed_cases (w ∷ ws) v zero a e = inl e
pushed_cases (w ∷ ws) v (suc k) a e = ⊎_elim (λ h. inl h) (λ h. inr (ap suc h.0, h.1)) (pushed_cases ws v k a e)

module _ (ws : List Codeword) (v : Codeword) where
  pub pushed_formed : AllFormed ws → Formed v → AllFormed (ws ++ v ∷ [])
  pushed_formed f g k w e =
      ⊎_elim (λ h. f k w h) (λ h. subst Formed (sym h.1) g) (pushed_cases ws v k w e)

  pub pushed_weighed : AllWeighed ws → v.weight ≤ most_weight → AllWeighed (ws ++ v ∷ [])
  pushed_weighed f g k w e =
      ⊎_elim (λ h. f k w h) (λ h. subst (λ (x : Codeword). x.weight ≤ most_weight) (sym h.1) g) (pushed_cases ws v k w e)

  pub pushed_apart : (Clash ws → ⊥) → (Clashes ws v → ⊥) → Clash (ws ++ v ∷ []) → ⊥
  pushed_apart free new c =
      ⊎_elim
      (λ old_i.
      ⊎_elim
      (λ old_j. free (record { i = c.i; j = c.j; a = c.a; b = c.b; apart = c.apart; at_i = old_i; at_j = old_j; start = c.start }))
      (λ last. new (c.i, c.a, old_i, inl (subst (λ (w : Codeword). Prefix (bits c.a) (bits w)) last.1 c.start)))
      (pushed_cases ws v c.j c.b c.at_j))
      (λ last_i.
      ⊎_elim
      (λ old_j. new (c.j, c.b, old_j, inr (subst (λ (w : Codeword). Prefix (bits w) (bits c.b)) last_i.1 c.start)))
      (λ last_j. c.apart (last_i.0 ∙ sym last_j.0))
      (pushed_cases ws v c.j c.b c.at_j))
      (pushed_cases ws v c.i c.a c.at_i)
