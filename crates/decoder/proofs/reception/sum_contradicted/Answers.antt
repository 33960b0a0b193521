use Rattle.std.proofs.Common.{◌≡◌, ◌<◌, Bool, false, List, length, get_or, take, drop, Some, None, sym, ◌∙◌, subst, arith}
use Rattle.std.specs.List.{slice_get}
use Rattle.std.proofs.lemmas.List.{take_all}
use Rattle.std.proofs.lemmas.Bool.{cond-true, cond-false}
use Rattle.codetable.specs.Codewords.{bits}
use Rattle.codetable.proofs.Bits.{length-bits}
use Rattle.codetable.proofs.Stored.{nth_drop}
use Rattle.softvalues.specs.Received.{values}
use Rattle.decoder.specs.Metrics.{contradicts, if_contradicted, over}
use Rattle.decoder.proofs.Laid.{contradiction, over_zero, over_more, over_past}
use Rattle.decoder.proofs.reception.sum_contradicted.Goals as goal
use Rattle.decoder.proofs.reception.sum_contradicted.Goals.{in-Some+then-bit-hard_bit, in-Some+else-bit-hard_bit, in_default}

pub loop-i-init : goal.loop-i-init
loop-i-init g c = record { low = omega arith; laid = λ f h. sym (over_zero (if_contradicted f) (bits c.args.word) (drop c.args.at (values c.args.received.now))) }

pub loop-i-preserved : goal.loop-i-preserved
loop-i-preserved g c =
    let w = c.args.word in
    let i = c.loop-i.i in
    let vs = values c.args.received.now in
    let long = length-bits w.len w.value in
    let low = c.loop-i.invariant.low in
    let inside : i < length (bits w) = omega (arith, c.from-i-end.ensures) in
    elim c.match-get.branch [
      | in-Some+then-bit-hard_bit x ↦
          let v = x.in-Some.soft.value in
          let there : slice_get (drop c.args.at vs) i ≡ Some v = nth_drop vs c.args.at i ∙ sym x.in-Some.ensures.found in
          record {
            low = omega (arith, x.sum-is, x.from-sum.ensures);
            laid = λ f h.
                let before = c.loop-i.invariant.laid f h in
                let value = h x.in-Some.soft x.cost.result x.cost.ensures in
                let more = over_more (if_contradicted f) (bits w) (drop c.args.at vs) i v inside there in
                let adds = cond-true (contradicts (get_or (bits w) i false) v) (f v) 0 (contradiction v x.bit.ensures.value x.hard_bit.ensures.sign ∙ x.if-bit-hard_bit.true) in
                omega (arith, x.sum-is, x.from-sum.ensures);
          }
      | in-Some+else-bit-hard_bit x ↦
          let v = x.in-Some.soft.value in
          let there : slice_get (drop c.args.at vs) i ≡ Some v = nth_drop vs c.args.at i ∙ sym x.in-Some.ensures.found in
          record {
            low = omega (arith, x.sum-is);
            laid = λ f h.
                let before = c.loop-i.invariant.laid f h in
                let more = over_more (if_contradicted f) (bits w) (drop c.args.at vs) i v inside there in
                let adds = cond-false (contradicts (get_or (bits w) i false) v) (f v) 0 (contradiction v x.bit.ensures.value x.hard_bit.ensures.sign ∙ x.if-bit-hard_bit.false) in
                omega (arith, x.sum-is);
          }
      | in_default x ↦
          let there : slice_get (drop c.args.at vs) i ≡ None = nth_drop vs c.args.at i ∙ sym x.in_default.ensures.found in
          record {
            low = omega (arith, x.sum-is);
            laid = λ f h.
                let before = c.loop-i.invariant.laid f h in
                let same = over_past (if_contradicted f) (bits w) (drop c.args.at vs) i there in
                omega (arith, x.sum-is);
          }
    ]

pub returns-clause-sum : goal.returns-clause-sum
returns-clause-sum g c f h =
    let w = c.args.word in
    let long = length-bits w.len w.value in
    let all : take c.loop-i.i (bits w) ≡ bits w = take_all c.loop-i.i (bits w) (omega (arith, c.from-i-end.ensures)) in
    subst (λ (l : List Bool). c.loop-i.sum ≡ over (if_contradicted f) l (drop c.args.at (values c.args.received.now))) all (c.loop-i.invariant.laid f h)
