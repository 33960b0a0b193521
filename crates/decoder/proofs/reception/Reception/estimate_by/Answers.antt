use Rattle.std.proofs.Common.{◌+◌, drop, sym, ap, ◌∙◌, arith}
use Rattle.decoder.specs.Estimates.{share, extended}
use Rattle.decoder.specs.Receptions.{code, observed}
use Rattle.decoder.proofs.Filled.{estimate_past}
use Rattle.decoder.proofs.Forward.{estimate_low, read_behind}
use Rattle.decoder.proofs.reception.Reception.estimate_by.Goals as goal

pub returns-then-next-len : goal.returns-then-next-len
returns-then-next-len c =
    let r = c.args.self.now in
    let w = c.args.word in
    let len = c.len.ensures.count in
    record { sum = sym (ap (extended (share w (drop c.args.j (observed r)))) (estimate_past (code r) (observed r) (c.args.j + w.len) (omega (arith, c.from.ensures, c.if-next-len.true)))) }

pub returns-in_err-estimate : goal.returns-in_err-estimate
returns-in_err-estimate c =
    let r = c.args.self.now in
    let w = c.args.word in
    let len = c.len.ensures.count in
    let behind = read_behind r.table.now r.received.now c.args.ahead.now c.args.j w.len (c.args.j + c.from.result) c.requires.behind c.requires.some (omega (arith, c.from.ensures)) (omega (arith, c.if-next-len.false)) in
    record { sum = c.from_residual.ensures ∙ ap (extended (share w (drop c.args.j (observed r)))) (c.in_err-estimate.ensures.read ∙ behind) }

pub overflow_add-result : goal.overflow_add-result
overflow_add-result c =
    let r = c.args.self.now in
    let w = c.args.word in
    let len = c.len.ensures.count in
    let behind = read_behind r.table.now r.received.now c.args.ahead.now c.args.j w.len (c.args.j + c.from.result) c.requires.behind c.requires.some (omega (arith, c.from.ensures)) (omega (arith, c.if-next-len.false)) in
    let low = estimate_low r.table.now r.received.now (c.args.j + w.len) c.in_ok-estimate.estimate (sym (c.in_ok-estimate.ensures.read ∙ behind)) in
    omega (arith, c.share.ensures.small)
