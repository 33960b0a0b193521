-- What every received sequence keeps.
use Rattle.std.proofs.Common.{◌≡◌, ℕ, zero, suc, ◌≤◌, List, [], ◌∷◌, map, length, subst, arith}
use Rattle.std.proofs.lemmas.List.{length-take, length-map}
use Rattle.fixedvec.specs.Items.{items}
use Rattle.softvalues.specs.declared.scale.SoftValue.{SoftValue}
use Rattle.softvalues.specs.declared.received.SoftValues.{SoftValues}
use Rattle.softvalues.specs.Scale.{OnScale}
use Rattle.softvalues.specs.Stored.{AllOnScale, most_values}
use Rattle.softvalues.specs.Received.{values}

pub few_values : (s : SoftValues) → length (values s) ≤ most_values
few_values s = let inside = s.inner.within in simp (length-map, length-take) (omega arith)

scaled : (vs : List SoftValue) → AllOnScale (map (λ v. v.value) vs)
scaled [] k v e = absurd (let z : ◌≡◌ {A = ℕ} 0 1 = cc in omega arith)
scaled (s ∷ vs) zero v e = let same : s.value ≡ v = cc in subst OnScale same s.scale
scaled (s ∷ vs) (suc k) v e = scaled vs k v e

pub all_on_scale : (s : SoftValues) → AllOnScale (values s)
all_on_scale s = scaled (items s.inner)
