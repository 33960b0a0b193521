-- Distances of rows of bits.
use Rattle.std.proofs.Common.{◌≡◌, ℕ, zero, suc, ◌+◌, min, cond, Bool, true, false, not, List, [], ◌∷◌, ◌++◌, length, get_or, drop, sym, refl, ap, ◌∙◌, arith}
use mathlib.Core.Bool.{beq}
use Rattle.std.specs.List.{count_by, range_with_len}
use Rattle.std.proofs.lemmas.List.Sums.{sum_by-cons}
use Rattle.distance.specs.Distances.{hamming, differing}

differing_sym : (x y : Bool) → differing x y ≡ differing y x
differing_sym false false = refl
differing_sym false true = refl
differing_sym true false = refl
differing_sym true true = refl

differing_same : (x : Bool) → differing x x ≡ 0
differing_same false = refl
differing_same true = refl

pub hamming_none : (xs : List Bool) → hamming xs [] ≡ 0
unfolding hamming
hamming_none [] = refl
hamming_none (x ∷ xs) = refl

pub hamming_sym : (xs ys : List Bool) → hamming xs ys ≡ hamming ys xs
unfolding hamming
hamming_sym [] ys = sym (hamming_none ys)
hamming_sym (x ∷ xs) [] = refl
hamming_sym (x ∷ xs) (y ∷ ys) = let here = differing_sym x y in let rest = hamming_sym xs ys in omega arith

-- a shared beginning adds nothing
pub hamming_shared : (ws us vs : List Bool) → hamming (ws ++ us) (ws ++ vs) ≡ hamming us vs
unfolding hamming
hamming_shared [] us vs = refl
hamming_shared (w ∷ ws) us vs = let here = differing_same w in let rest = hamming_shared ws us vs in omega arith

-- what more bits on the one side add
pub hamming_behind : (xs us ys : List Bool) → hamming (xs ++ us) ys ≡ hamming xs ys + hamming us (drop (length xs) ys)
unfolding hamming
hamming_behind [] us ys = omega arith
hamming_behind (x ∷ xs) us [] = let none = hamming_none us in omega arith
hamming_behind (x ∷ xs) us (y ∷ ys) = let rest = hamming_behind xs us ys in omega arith

-- two rows are compared over the shorter of two beginnings, and then on from there
pub hamming_cut : (ts ws us vs : List Bool) → hamming (ws ++ us) (ts ++ vs) ≡ hamming ts ws + hamming (drop (length ts) ws ++ us) (drop (length ws) ts ++ vs)
unfolding hamming
hamming_cut [] [] us vs = omega arith
hamming_cut [] (w ∷ ws) us vs = omega arith
hamming_cut (t ∷ ts) [] us vs = omega arith
hamming_cut (t ∷ ts) (w ∷ ws) us vs = let here = differing_sym w t in let rest = hamming_cut ts ws us vs in omega arith

differs_counts : (x y : Bool) → cond (not (beq x y)) 1 0 ≡ differing x y
differs_counts false false = refl
differs_counts false true = refl
differs_counts true false = refl
differs_counts true true = refl

-- the distance counts the places at which both rows have a bit and these differ: p tells it of n places from a on
pub hamming_counts : (p : ℕ → Bool) (a n : ℕ) (xs ys : List Bool) → n ≡ min (length xs) (length ys) → ((i : ℕ) → p (a + i) ≡ not (beq (get_or xs i false) (get_or ys i false))) → count_by p (range_with_len a n) ≡ hamming xs ys
unfolding hamming
hamming_counts p a zero [] ys e h = refl
hamming_counts p a (suc n) [] ys e h = absurd (omega arith)
hamming_counts p a zero (x ∷ xs) [] e h = refl
hamming_counts p a (suc n) (x ∷ xs) [] e h = absurd (omega arith)
hamming_counts p a zero (x ∷ xs) (y ∷ ys) e h = absurd (omega arith)
hamming_counts p a (suc n) (x ∷ xs) (y ∷ ys) e h =
    let rest = hamming_counts p (a + 1) n xs ys (omega arith) (λ i. let next : a + 1 + i ≡ a + suc i = omega arith in ap p next ∙ h (suc i)) in
    let first : a ≡ a + 0 = omega arith in
    let here : cond (p a) 1 0 ≡ differing x y = ap (λ (b : Bool). cond b 1 0) (ap p first ∙ h 0) ∙ differs_counts x y in
    let sum = sum_by-cons (λ (i : ℕ). cond (p i) 1 0) a (range_with_len (a + 1) n) in
    omega arith
