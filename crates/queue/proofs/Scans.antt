-- A scan of the places from 0 on: its start, its steps and its end.
use Rattle.std.proofs.Common.{◌≡◌, ℕ, suc, ◌+◌, ◌<◌, ◌≤◌, cond, nat_lt, List, [], ◌∷◌, length, get_or, replicate, Some, None, Option, sym, refl, ap, ◌∙◌, subst, ⊎_elim, arith}
use Rattle.std.proofs.lemmas.List.{get_or-replicate, get_or_past, length-replicate}
use Rattle.std.proofs.lemmas.Bool.{cases_lt, cond_both, ltb-true, ltb-false}
use Rattle.std.proofs.lemmas.Iterator.{YieldsList}
use Rattle.std.proofs.iter.Yields.{gives_Drains}
use Rattle.std.specs.Fn.{Called}
use Rattle.std.specs.Iterator.{ReducesItems}
use Rattle.std.specs.List.{FoldsTo, fold, reduce, filter_map, enumerate_from}
use denote.Param.Members.{Mut}
use mathlib.Core.List.{map-id}
use Rattle.std.specs.Option.{option_map}
use Rattle.queue.specs.declared.strip.Keys.{Keys}
use Rattle.queue.specs.Queues.{Model, places, Bounded, Bare, Looked}
use Rattle.queue.specs.Arrays.{strip_model}
use Rattle.queue.specs.Bounds.{strip_bounded}
use Rattle.queue.proofs.Keyed.{same_key, not_both}

-- k is the least key of the first n places, and the place the lowest of them that has it
pub record LeastBelow (key : ℕ → Option ℕ) (n k place : ℕ) : Type 0 where
  pub here : key place ≡ Some k
  pub within : place < n
  pub least : (p j : ℕ) → p < n → key p ≡ Some j → k ≤ j
  pub lowest : (p : ℕ) → p < n → key p ≡ Some k → place ≤ p

-- what a scan of the first n places has found
abbrev pub Scanned : (ℕ → Option ℕ) → ℕ → Option (ℕ × ℕ) → Type 0
Scanned key n None = (p : ℕ) → p < n → key p ≡ None
Scanned key n (Some a) = LeastBelow key n a.0 a.1

-- a place that is held is below the size
pub held_below : (m : Model) → Bounded m → (p k : ℕ) → m.key p ≡ Some k → p < m.size
held_below m b p k e = ⊎_elim (λ h. h) (λ h. absurd (not_both (m.key p) k (b p h) e)) (cases_lt p m.size)

-- a scan of every place is a look
pub scan_all : (m : Model) → Bounded m → (best : Option (ℕ × ℕ)) → Scanned m.key m.size best → Looked m best
scan_all m b None s = λ p. ⊎_elim (λ h. s p h) (λ h. b p h) (cases_lt p m.size)
scan_all m b (Some a) s =
    record {
      here = s.here;
      least = λ p k e. s.least p k (held_below m b p k e) e;
      lowest = λ p e. s.lowest p (held_below m b p a.0 e) e;
    }

-- a row of nothing holds nothing
pub blank_bare : (s : Keys) → s.at ≡ replicate places None → Bare (strip_model s)
blank_bare s e p =
    ap (λ (row : List (Option ℕ)). get_or row p None) e
    ∙ ⊎_elim
    (λ h. get_or-replicate places p None None h)
    (λ h.
    let long = length-replicate {A = Option ℕ} places None in
    get_or_past (replicate places None) p None (omega arith))
    (cases_lt p places)
