-- The word with the lowest number that comes last at a place.
use Rattle.std.proofs.Common.{◌≡◌, ℕ, ◌<◌, MatchOption, List, length, get_or, ℤ, Some, None, Option, subst, zero-le, arith}
use Rattle.std.specs.List.{AllWithin, HoldsAt}
use Rattle.std.proofs.lemmas.Option.{slice_get-get_or}
use Rattle.codetable.specs.declared.word.Codeword.{Codeword}
use Rattle.codetable.proofs.Stored.{here}
use Rattle.decoder.specs.Traces.{EndsAt, NoneLast, LowestLast}

module _ (vs : List ℤ) (costs : List ℕ) (i j : ℕ) where
  abbrev pub NotLast : Codeword → Type 0
  NotLast w = EndsAt vs costs i j w → ⊥

  module _ (ws : List Codeword) where
    none_last : (n : ℕ) → AllWithin NotLast ws 0 n → NoneLast ws vs costs i j n
    none_last n none k w b lt at_k sum last = subst NotLast (here ws k w at_k) (none k w zero-le lt) (b, sum, last)

    -- the first word that comes last
    pub none_found : (r : Option ℕ) → r ≡ None → MatchOption r (AllWithin NotLast ws 0 (length ws)) (λ k. (k < length ws) × HoldsAt (EndsAt vs costs i j) ws k × AllWithin NotLast ws 0 k) → NoneLast ws vs costs i j (length ws)
    none_found None is none = none_last (length ws) none
    none_found (Some k) is found = let z : ◌≡◌ {A = ℕ} 0 1 = cc in absurd (omega arith)

    pub lowest_found : (r : Option ℕ) (k : ℕ) (d : Codeword) → r ≡ Some k → MatchOption r (AllWithin NotLast ws 0 (length ws)) (λ k. (k < length ws) × HoldsAt (EndsAt vs costs i j) ws k × AllWithin NotLast ws 0 k) → LowestLast ws vs costs i j (k, get_or ws k d)
    lowest_found None k d is none = let z : ◌≡◌ {A = ℕ} 0 1 = cc in absurd (omega arith)
    lowest_found (Some n) k d is found =
        let same : n ≡ k = cc in
        let ends = found.1 d in
        subst (λ (m : ℕ). LowestLast ws vs costs i j (m, get_or ws m d)) same (record { there = slice_get-get_or ws n d found.0; b = ends.0; bits = ends.1; last = ends.2; lowest = none_last n found.2 })
