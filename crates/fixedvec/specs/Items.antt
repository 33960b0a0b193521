-- The items of a fixed list.
use Rattle.std.specs.Prelude.{List, ℕ, take}
use Rattle.fixedvec.specs.declared.FixedVec.{FixedVec}

-- the items of a list, in order
abbrev pub items : {T : Type 0} {N : ℕ} → FixedVec T N → List T
items v = take v.len v.at
