-- The edges of a place, read by their index.
use Rattle.std.proofs.Common.{ℕ, zero, suc, List, [], ◌∷◌, ◌≡◌, slice_get, refl}
use Rattle.search.specs.Graphs.{nth}

pub slice_get-nth : (es : List (ℕ × ℕ)) (i : ℕ) → slice_get es i ≡ nth es i
slice_get-nth [] i = refl
slice_get-nth (e ∷ es) zero = refl
slice_get-nth (e ∷ es) (suc i) = slice_get-nth es i
