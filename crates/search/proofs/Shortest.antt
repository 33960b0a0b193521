-- A least cost is at most the cost of the dearest edge for each place: a path that comes to a place twice can leave out
-- what lies between.
use Rattle.std.proofs.Common.{◌≡◌, ℕ, ◌+◌, ◌*◌, ◌<◌, ◌≤◌, cond, eqb, Some, None, Option, sym, refl, ap, ◌∙◌, subst, ⊎_elim, mul-one, mul-add, arith}
use Rattle.std.proofs.lemmas.Nat.{mul-le}
use Rattle.std.proofs.lemmas.Bool.{cases_eq, eq-eqb, ne_eqb, cond-true, cond-false}
use Rattle.queue.specs.Queues.{tally, one}
use Rattle.queue.proofs.Tallies.{tally-set, tally_most}
use Rattle.search.specs.Graphs.{Graph, Edge, Path, LeastCost, here, on}
use Rattle.search.proofs.Ahead.{none_or_some}

-- the places that are marked so far, and one more
abbrev mark : (ℕ → Option ℕ) → ℕ → ℕ → Option ℕ
mark f q p = cond (eqb p q) (Some 0) (f p)

mark_here : (f : ℕ → Option ℕ) (q : ℕ) → mark f q q ≡ Some 0
mark_here f q = cond-true (eqb q q) (Some 0) (f q) (eq-eqb q q refl)

mark_other : (f : ℕ → Option ℕ) (q p : ℕ) → (p ≡ q → ⊥) → mark f q p ≡ f p
mark_other f q p ne = cond-false (eqb p q) (Some 0) (f p) (ne_eqb p q ne)

-- a path that comes to no place twice, with its places marked, and its cost
data Trail (g : Graph) : (ℕ → Option ℕ) → ℕ → ℕ → Type 0 where
  begin : Trail g (mark (λ p. None) g.start) g.start 0
  more : {f : ℕ → Option ℕ} {p q c d : ℕ} → Trail g f p c → Edge g p q d → f q ≡ None → Trail g (mark f q) q (c + d)

abbrev TrailTo : Graph → ℕ → Type 0
TrailTo g p = (f : ℕ → Option ℕ) × (c : ℕ) × Trail g f p c

-- a trail, up to a place that it has come to
cut : (g : Graph) {f : ℕ → Option ℕ} {p c : ℕ} → Trail g f p c → (q k : ℕ) → f q ≡ Some k → TrailTo g q
cut g begin q k e =
    ⊎_elim
    (λ h. subst (λ (x : ℕ). TrailTo g x) (sym h) (mark (λ p. None) g.start, 0, begin))
    (λ h. let blank = mark_other (λ p. None) g.start q h in absurd (cc))
    (cases_eq q g.start)
cut g (more {f = f} {p = p} {q = r} {c = c} {d = d} trail edge free) q k e =
    ⊎_elim
    (λ h. subst (λ (x : ℕ). TrailTo g x) (sym h) (mark f r, c + d, more trail edge free))
    (λ h. cut g trail q k (sym (mark_other f r q h) ∙ e))
    (cases_eq q r)

trail_path : (g : Graph) {f : ℕ → Option ℕ} {p c : ℕ} → Trail g f p c → Path g p c
trail_path g begin = here
trail_path g (more trail edge free) = on (trail_path g trail) edge

-- each path can be cut to a trail
trail_of : (g : Graph) {p c : ℕ} → Path g p c → TrailTo g p
trail_of g here = (mark (λ p. None) g.start, 0, begin)
trail_of g (on {p} {q} {c} {d} path edge) =
    let before = trail_of g path in
    ⊎_elim
    (λ free. (mark before.0 q, before.1 + d, more before.2 edge free))
    (λ s. cut g before.2 q s.0 s.1)
    (none_or_some (before.0 q))

module _ (g : Graph) (dearest : ℕ) (inside : (p q c : ℕ) → Edge g p q c → q < g.size) (dear : (p q c : ℕ) → Edge g p q c → c ≤ dearest) where
  trail_cost : {f : ℕ → Option ℕ} {p c : ℕ} → Trail g f p c → c ≤ dearest * tally f g.size
  trail_cost begin = omega arith
  trail_cost (more {f} {p} {q} {c} {d} trail edge free) =
      let before = trail_cost trail in
      let step = dear p q d edge in
      let counts = tally-set f (mark f q) g.size q (inside p q d edge) (λ r ne. mark_other f q r ne) in
      let was : one (f q) ≡ 0 = ap one free in
      let is : one (mark f q q) ≡ 1 = ap one (mark_here f q) in
      let sum : tally (mark f q) g.size ≡ tally f g.size + 1 = omega arith in
      let product : dearest * tally (mark f q) g.size ≡ dearest * tally f g.size + dearest * 1 =
      ap (λ (n : ℕ). dearest * n) sum ∙ mul-add dearest (tally f g.size) 1 in
      let single = mul-one dearest in
      omega arith

  pub least_most : (p c : ℕ) → LeastCost g p c → c ≤ dearest * g.size
  least_most p c least =
      let trail = trail_of g least.path in
      let cost = trail_cost trail.2 in
      let most = mul-le dearest (tally trail.0 g.size) dearest g.size (omega arith) (tally_most trail.0 g.size) in
      let lower = least.least trail.1 (trail_path g trail.2) in
      omega arith
