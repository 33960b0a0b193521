use Rattle.std.proofs.Common.{◌≡◌, ℕ, ◌+◌, ◌-◌, min, List, length, drop, set, sym, ap, ◌∙◌, subst, arith, length-drop}
use Rattle.std.proofs.lemmas.List.{length-replicate}
use Rattle.fixedvec.specs.Items.{items}
use Rattle.codetable.specs.Codewords.{bits}
use Rattle.codetable.specs.Sequences.{joined_bits}
use Rattle.codetable.specs.Tables.{words}
use Rattle.softvalues.specs.Received.{values}
use Rattle.decoder.specs.Metrics.{changes, over, most_list}
use Rattle.decoder.specs.Laws.{sound_of, few_values_of}
use Rattle.decoder.proofs.Laid.{changed_most}
use Rattle.decoder.proofs.Reading.{Reading, reading_start, reading_step, reading_goes, reading_end}
use Rattle.decoder.proofs.trace.Trace.read_back.Goals as goal

pub loop-stage-init : goal.loop-stage-init
loop-stage-init c =
    let ws = words c.args.self.now.reception.table.now in
    let vs = values c.args.self.now.reception.received.now in
    let n = c.args.self.now.count in
    let few = c.args.self.now.few in
    let s = sound_of c.args.self.now.reception.table.now c.args.self.now.reception.received.now n few in
    let list = items c.filled-list.result in
    let full : length list ≡ n = ap length c.filled-list.ensures.items ∙ length-replicate (min n most_list) 0 ∙ omega arith in
    subst (λ (m : ℕ). Reading ws vs n c.args.self.now.costs.now list 0 m n) (sym c.len-bits.ensures.count) (reading_start ws vs n s c.args.self.now.costs.now c.requires.searched list full)

-- the turn with the word that was found
next : (c : goal.After-changed_bits-changed) → Reading (words c.args.self.now.reception.table.now) (values c.args.self.now.reception.received.now) c.args.self.now.count c.args.self.now.costs.now (items c.replace.new.self) (c.loop-stage.changed + c.changed_bits-changed.result) (c.loop-stage.bits - c.from-bits.result) (c.loop-stage.stage - 1)
next c =
    let ws = words c.args.self.now.reception.table.now in
    let vs = values c.args.self.now.reception.received.now in
    let n = c.args.self.now.count in
    let costs = c.args.self.now.costs.now in
    let s = sound_of c.args.self.now.reception.table.now c.args.self.now.reception.received.now n c.args.self.now.few in
    let i = c.loop-stage.stage - 1 in
    let list = items c.loop-stage.list in
    let some = c.loop-stage-test.true in
    let stage : c.loop-stage.stage ≡ i + 1 = omega arith in
    let here = subst (λ (m : ℕ). Reading ws vs n costs list c.loop-stage.changed c.loop-stage.bits m) stage c.loop-stage.invariant in
    let l = c.in-Some.ensures.lowest in
    let long = c.from-bits.ensures in
    let sum = l.bits in
    let start : l.b ≡ c.loop-stage.bits - c.from-bits.result = omega arith in
    let count : over changes (bits c.in-Some.word) (drop l.b vs) ≡ c.changed_bits-changed.result = ap (λ (m : ℕ). over changes (bits c.in-Some.word) (drop m vs)) start ∙ sym c.changed_bits-changed.ensures.changed in
    let step = reading_step ws vs n s costs list c.loop-stage.changed c.loop-stage.bits i (c.in-Some.k, c.in-Some.word) here l in
    let counted = subst (λ (m : ℕ). Reading ws vs n costs (set list i c.in-Some.k) (c.loop-stage.changed + c.changed_bits-changed.result) m i) start (subst (λ (m : ℕ). Reading ws vs n costs (set list i c.in-Some.k) (c.loop-stage.changed + m) l.b i) count step) in
    subst (λ (ks : List ℕ). Reading ws vs n costs ks (c.loop-stage.changed + c.changed_bits-changed.result) (c.loop-stage.bits - c.from-bits.result) i) (sym c.replace.ensures.items) counted

pub overflow_add-changed : goal.overflow_add-changed
overflow_add-changed c =
    let ws = words c.args.self.now.reception.table.now in
    let vs = values c.args.self.now.reception.received.now in
    let j = c.loop-stage.bits - c.from-bits.result in
    let r = next c in
    let counted = r.counted in
    let most = changed_most (joined_bits ws (drop (c.loop-stage.stage - 1) (items c.replace.new.self))) (drop j vs) in
    let rest = length-drop j vs in
    let few = few_values_of c.args.self.now.reception.received.now in
    omega arith

pub loop-stage-preserved-in-Some : goal.loop-stage-preserved-in-Some
loop-stage-preserved-in-Some c = next c

pub loop-stage-preserved : goal.loop-stage-preserved
loop-stage-preserved c =
    let ws = words c.args.self.now.reception.table.now in
    let vs = values c.args.self.now.reception.received.now in
    let n = c.args.self.now.count in
    let s = sound_of c.args.self.now.reception.table.now c.args.self.now.reception.received.now n c.args.self.now.few in
    let i = c.loop-stage.stage - 1 in
    let some = c.loop-stage-test.true in
    let stage : c.loop-stage.stage ≡ i + 1 = omega arith in
    let here = subst (λ (m : ℕ). Reading ws vs n c.args.self.now.costs.now (items c.loop-stage.list) c.loop-stage.changed c.loop-stage.bits m) stage c.loop-stage.invariant in
    absurd (reading_goes ws vs n s c.args.self.now.costs.now (items c.loop-stage.list) c.loop-stage.changed c.loop-stage.bits i here c.in_default.ensures.lowest)

pub returns : goal.returns
returns c =
    let ws = words c.args.self.now.reception.table.now in
    let vs = values c.args.self.now.reception.received.now in
    let n = c.args.self.now.count in
    let s = sound_of c.args.self.now.reception.table.now c.args.self.now.reception.received.now n c.args.self.now.few in
    let none = c.loop-stage-test.false in
    let stage : c.loop-stage.stage ≡ 0 = omega arith in
    let all = reading_end ws vs n s c.args.self.now.costs.now (items c.loop-stage.list) c.loop-stage.changed c.loop-stage.bits (subst (λ (m : ℕ). Reading ws vs n c.args.self.now.costs.now (items c.loop-stage.list) c.loop-stage.changed c.loop-stage.bits m) stage c.loop-stage.invariant) in
    record { best = all.0; changed = all.1 }
