-- Sums over bits and values, over joined bits, and of weights.
use Rattle.std.proofs.Common.{◌≡◌, ℕ, ◌+◌, Bool, List, [], ◌∷◌, ◌++◌, length, drop, ℤ, Some, Option, unwrap_or, refl, ap, ◌∙◌, arith}
use Rattle.std.specs.List.{slice_get}
use Rattle.std.specs.Option.{option_map}
use Rattle.codetable.specs.declared.word.Codeword.{Codeword}
use Rattle.codetable.specs.Codewords.{bits}
use Rattle.codetable.specs.Sequences.{joined_bits}
use Rattle.codetable.proofs.Bits.{length-bits}
use Rattle.codetable.proofs.Sequences.{bits_there, joined_push}
use Rattle.decoder.specs.Metrics.{penalty, over, weight_at, weights, metric}
use Rattle.decoder.specs.Estimates.{share}

pub over_none : (f : Bool → ℤ → ℕ) (bs : List Bool) → over f bs [] ≡ 0
unfolding over
over_none f [] = refl
over_none f (b ∷ bs) = refl

-- the sum over joined rows
pub over-append : (f : Bool → ℤ → ℕ) (xs ys : List Bool) (vs : List ℤ) → over f (xs ++ ys) vs ≡ over f xs vs + over f ys (drop (length xs) vs)
unfolding over
over-append f [] ys vs = omega arith
over-append f (x ∷ xs) ys [] = let none = over_none f ys in omega arith
over-append f (x ∷ xs) ys (v ∷ vs) = let rest = over-append f xs ys vs in omega arith

-- one word before the others
pub over_cons : (f : Bool → ℤ → ℕ) (ws : List Codeword) (vs : List ℤ) (k : ℕ) (ks : List ℕ) (w : Codeword) → slice_get ws k ≡ Some w → over f (joined_bits ws (k ∷ ks)) vs ≡ over f (bits w) vs + over f (joined_bits ws ks) (drop w.len vs)
over_cons f ws vs k ks w at_k =
    ap (λ (l : List Bool). over f (l ++ joined_bits ws ks) vs) (bits_there ws k w at_k)
    ∙ over-append f (bits w) (joined_bits ws ks) vs
    ∙ ap (λ (n : ℕ). over f (bits w) vs + over f (joined_bits ws ks) (drop n vs)) (length-bits w.len w.value)

-- one word behind the others
pub over_push : (f : Bool → ℤ → ℕ) (ws : List Codeword) (vs : List ℤ) (ks : List ℕ) (k : ℕ) (w : Codeword) → slice_get ws k ≡ Some w → over f (joined_bits ws (ks ++ k ∷ [])) vs ≡ over f (joined_bits ws ks) vs + over f (bits w) (drop (length (joined_bits ws ks)) vs)
over_push f ws vs ks k w at_k =
    ap (λ (l : List Bool). over f l vs) (joined_push ws ks k ∙ ap (λ (l : List Bool). joined_bits ws ks ++ l) (bits_there ws k w at_k))
    ∙ over-append f (joined_bits ws ks) (bits w) vs

pub weight_there : (ws : List Codeword) (k : ℕ) (w : Codeword) → slice_get ws k ≡ Some w → weight_at ws k ≡ w.weight
weight_there ws k w at_k = ap (λ (o : Option Codeword). unwrap_or (option_map (λ (x : Codeword). x.weight) o) 0) at_k

pub weights_cons : (ws : List Codeword) (k : ℕ) (ks : List ℕ) → weights ws (k ∷ ks) ≡ weight_at ws k + weights ws ks
unfolding weights
weights_cons ws k ks = refl

pub weights_push : (ws : List Codeword) (ks : List ℕ) (k : ℕ) → weights ws (ks ++ k ∷ []) ≡ weights ws ks + weight_at ws k
unfolding weights
weights_push ws [] k = omega arith
weights_push ws (j ∷ ks) k = let rest = weights_push ws ks k in omega arith

-- the metric of no words
pub metric_nil : (ws : List Codeword) (vs : List ℤ) → metric ws vs [] ≡ 0
unfolding over weights
metric_nil ws vs = refl

-- the metric with one word before the others
pub metric_cons : (ws : List Codeword) (vs : List ℤ) (k : ℕ) (ks : List ℕ) (w : Codeword) → slice_get ws k ≡ Some w → metric ws vs (k ∷ ks) ≡ share w vs + metric ws (drop w.len vs) ks
metric_cons ws vs k ks w at_k =
    let sum = over_cons penalty ws vs k ks w at_k in
    let all = weights_cons ws k ks in
    let here = weight_there ws k w at_k in
    omega arith

-- the metric with one word behind the others
pub metric_push : (ws : List Codeword) (vs : List ℤ) (ks : List ℕ) (k : ℕ) (w : Codeword) → slice_get ws k ≡ Some w → metric ws vs (ks ++ k ∷ []) ≡ metric ws vs ks + share w (drop (length (joined_bits ws ks)) vs)
metric_push ws vs ks k w at_k =
    let sum = over_push penalty ws vs ks k w at_k in
    let all = weights_push ws ks k in
    let here = weight_there ws k w at_k in
    omega arith
