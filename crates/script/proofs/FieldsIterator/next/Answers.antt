use Rattle.std.proofs.Common.{◌≡◌, ◌<◌, ◌≤◌, not, [], ◌∷◌, length, drop, Some, None, rules, tests, sym, ap, ◌∙◌, ⊎_elim, arith}
use Rattle.std.specs.Bool.{then_some}
use Rattle.std.proofs.lemmas.Bool.{cases_lt, lt-ltb, le-ltb}
use Rattle.script.specs.Script.{blank, fields}
use Rattle.script.specs.Scan.{fields_left}
use Rattle.script.proofs.Parts.{takes_field, takes_none, leaves_none}
use Rattle.script.proofs.FieldsIterator.next.Goals.{After-then_some}
use Rattle.script.proofs.FieldsIterator.next.Goals as goal

-- a field of some bytes comes, or none is left
module _ (c : After-then_some) where
  some : 0 < c.len_before-len.result → (c.then_some.result ≡ Some c.split_at-2.result.0) × (fields_left c.args.self.now ≡ c.split_at-2.result.0.now ∷ fields c.split_at-2.result.1.now)
  some lt =
      let blanks = c.len_before-blanks.ensures.first (λ b. not (blank b)) (λ x b q k. search (rules, tests)) in
      let ends = c.len_before-len.ensures.first blank (λ x b q k. search (rules, tests)) in (
        c.then_some.ensures ∙ ap (λ t. then_some t c.split_at-2.result.0) (lt-ltb _ _ lt),
        takes_field _ _ _ _ blanks c.split_at.ensures.back ends lt
            ∙ ap (λ f. f ∷ fields (drop c.len_before-len.result c.split_at.result.1.now)) (sym c.split_at-2.ensures.front)
            ∙ ap (λ r. c.split_at-2.result.0.now ∷ fields r) (sym c.split_at-2.ensures.back),
      )

  none : c.len_before-len.result ≤ 0 → (c.then_some.result ≡ None) × (fields_left c.args.self.now ≡ []) × (fields c.split_at-2.result.1.now ≡ [])
  none le =
      let blanks = c.len_before-blanks.ensures.first (λ b. not (blank b)) (λ x b q k. search (rules, tests)) in
      let ends = c.len_before-len.ensures.first blank (λ x b q k. search (rules, tests)) in (
        c.then_some.ensures ∙ ap (λ t. then_some t c.split_at-2.result.0) (le-ltb _ _ le),
        takes_none _ _ _ _ blanks c.split_at.ensures.back ends (omega arith),
        ap fields c.split_at-2.ensures.back ∙ leaves_none _ _ _ _ blanks c.split_at.ensures.back ends (omega arith),
      )

pub returns-clause-steps : goal.returns-clause-steps
returns-clause-steps c =
    ⊎_elim (λ lt. let h = some c lt in rw h.0 h.1) (λ le. let h = none c le in rw h.0 (h.1, h.2)) (cases_lt 0 c.len_before-len.result)

pub returns-clause-goes : goal.returns-clause-goes
returns-clause-goes c =
    ⊎_elim
    (λ lt. let h = some c lt in rw h.0 (record { on = λ _. (tt, tt, omega (arith, ap length h.1)); keeps = tt; rests = λ _. tt }))
    (λ le. let h = none c le in rw h.0 (record { on = λ _. tt; keeps = tt; rests = λ _. tt }))
    (cases_lt 0 c.len_before-len.result)
