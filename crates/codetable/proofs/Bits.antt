-- The bits of a value: how many, where they are cut, and that they tell values apart.
use Rattle.std.proofs.Common.{◌≡◌, ℕ, zero, suc, ◌+◌, ◌-◌, ◌*◌, ◌/◌, ◌%◌, ◌^◌, ◌<◌, ◌≤◌, Bool, false, eqb, List, [], ◌∷◌, ◌++◌, length, get_or, take, sym, refl, ap, ◌∙◌, subst, ⊎_elim, lt_of_lt_of_le, le_of_suc-le-suc, not-suc-le-zero, mod-eq_of_lt, add_comm, suc-add, zero-add, one-add, arith, length-append, pow_mono}
use native.Mathlib.Nat.{div-eq_of_lt}
use Rattle.std.proofs.lemmas.Nat.{shr-shr, mod-pow-add, shr_below, mod_below, pow-add}
use Rattle.std.proofs.lemmas.List.{take_at}
use Rattle.std.proofs.lemmas.Bool.{eqb-true, eqb-false, cases_Bool}
use Rattle.codetable.specs.declared.word.Codeword.{Codeword}
use Rattle.codetable.specs.Codewords.{bits_of, largest, most_bits, Formed, Prefix}

pub length-bits : (n v : ℕ) → length (bits_of n v) ≡ n
unfolding bits_of
length-bits zero v = refl
length-bits (suc n) v = ap suc (length-bits n v)

-- bit i has n - 1 - i bits behind it
pub bit_at : (n v i : ℕ) → i < n → get_or (bits_of n v) i false ≡ eqb (v / 2 ^ (n - 1 - i) % 2) 1
unfolding bits_of
bit_at zero v i h = absurd (not-suc-le-zero h)
bit_at (suc n) v zero h = let e : suc n - 1 - 0 ≡ n = omega arith in rw e refl
bit_at (suc n) v (suc i) h = let e : suc n - 1 - suc i ≡ n - 1 - i = omega arith in rw e (bit_at n v i (le_of_suc-le-suc h))

-- a value below 2 ^ k has only zeros from there on
pub bit_high : (k v j : ℕ) → v < 2 ^ k → k ≤ j → eqb (v / 2 ^ j % 2) 1 ≡ false
bit_high k v j fits h =
    let small : v < 2 ^ j = lt_of_lt_of_le fits (pow_mono h) in
    rw (div-eq_of_lt small) refl

-- the first m bits are those of the value shifted down by the others
pub bits_cut : (m k v : ℕ) → bits_of (m + k) v ≡ bits_of m (v / 2 ^ k) ++ bits_of k v
unfolding bits_of
bits_cut zero k v = rw zero-add refl
bits_cut (suc m) k v =
    let shifted : v / 2 ^ (m + k) ≡ v / 2 ^ k / 2 ^ m = ap (λ (i : ℕ). v / 2 ^ i) (add_comm m k) ∙ sym (shr-shr v k m) in
    rw suc-add (rw shifted (ap (λ (l : List Bool). eqb (v / 2 ^ k / 2 ^ m % 2) 1 ∷ l) (bits_cut m k v)))

-- a digit of base 2 is told by the test that it is 1
digit_told : (x y : ℕ) → x < 2 → y < 2 → eqb x 1 ≡ eqb y 1 → x ≡ y
digit_told x y hx hy e =
    ⊎_elim
    (λ t. let p = eqb-true x 1 t in let q = eqb-true y 1 (sym e ∙ t) in omega arith)
    (λ f. let p = eqb-false x 1 f in let q = eqb-false y 1 (sym e ∙ f) in omega arith)
    (cases_Bool (eqb x 1))

head_of : List Bool → Bool
head_of [] = false
head_of (b ∷ bs) = b

tail_of : List Bool → List Bool
tail_of [] = []
tail_of (b ∷ bs) = bs

split : (n v : ℕ) → v % 2 ^ suc n ≡ (v / 2 ^ n % 2) * 2 ^ n + v % 2 ^ n
split n v = ap (λ (i : ℕ). v % 2 ^ i) (sym (one-add n)) ∙ mod-pow-add v 1 n

-- equal bits are of values that are equal but for what lies above the bits
pub bits_tell : (n v w : ℕ) → bits_of n v ≡ bits_of n w → v % 2 ^ n ≡ w % 2 ^ n
unfolding bits_of head_of tail_of
bits_tell zero v w e = let p = mod_below v 1 (omega arith) in let q = mod_below w 1 (omega arith) in omega arith
bits_tell (suc n) v w e =
    let same : v / 2 ^ n % 2 ≡ w / 2 ^ n % 2 = digit_told _ _ (mod_below _ 2 (omega arith)) (mod_below _ 2 (omega arith)) (ap head_of e) in
    let rest : v % 2 ^ n ≡ w % 2 ^ n = bits_tell n v w (ap tail_of e) in
    split n v ∙ ap (λ (d : ℕ). d * 2 ^ n + v % 2 ^ n) same ∙ ap (λ (r : ℕ). w / 2 ^ n % 2 * 2 ^ n + r) rest ∙ sym (split n w)

-- the largest value of n bits is one below the next power
pub largest_pow : (n : ℕ) → largest n + 1 ≡ 2 ^ n
unfolding largest
largest_pow zero = refl
largest_pow (suc n) = let h = largest_pow n in rw (← one-add n) (rw (pow-add 2 1 n) (omega arith))

pub below_pow : (n v : ℕ) → v ≤ largest n → v < 2 ^ n
below_pow n v h = let e = largest_pow n in omega arith

-- A value of m bits is the start of one of n bits just if it is that one shifted down by the bits that are left.
module _ (m n a b : ℕ) (short : m ≤ n) (fits_a : a < 2 ^ m) (fits_b : b < 2 ^ n) where
  cut_at : bits_of n b ≡ bits_of m (b / 2 ^ (n - m)) ++ bits_of (n - m) b
  cut_at = let whole : m + (n - m) ≡ n = omega arith in ap (λ (i : ℕ). bits_of i b) (sym whole) ∙ bits_cut m (n - m) b

  pub shift_prefix : b / 2 ^ (n - m) ≡ a → Prefix (bits_of m a) (bits_of n b)
  shift_prefix e = (bits_of (n - m) b, cut_at ∙ ap (λ (v : ℕ). bits_of m v ++ bits_of (n - m) b) e)

  pub prefix_shift : Prefix (bits_of m a) (bits_of n b) → b / 2 ^ (n - m) ≡ a
  prefix_shift p =
      let front : bits_of m (b / 2 ^ (n - m)) ≡ bits_of m a =
      sym (take_at (bits_of m (b / 2 ^ (n - m))) (bits_of (n - m) b) m (length-bits m (b / 2 ^ (n - m))))
      ∙ ap (take m) (sym cut_at ∙ p.1)
      ∙ take_at (bits_of m a) p.0 m (length-bits m a) in
      let whole : m + (n - m) ≡ n = omega arith in
      let fits : b / 2 ^ (n - m) < 2 ^ m = shr_below b m (n - m) (subst (λ (i : ℕ). b < 2 ^ i) (sym whole) fits_b) in
      sym (mod-eq_of_lt fits) ∙ bits_tell m (b / 2 ^ (n - m)) a front ∙ mod-eq_of_lt fits_a

-- a start is not longer
pub prefix_short : (xs ys : List Bool) → Prefix xs ys → length xs ≤ length ys
prefix_short xs ys p = let e = ap length p.1 ∙ length-append xs p.0 in omega arith

-- a word of a table fits the most bits of one
pub formed_below : (w : Codeword) → Formed w → w.value < 2 ^ most_bits
formed_below w f = lt_of_lt_of_le (below_pow w.len w.value f.2) (pow_mono f.1)
