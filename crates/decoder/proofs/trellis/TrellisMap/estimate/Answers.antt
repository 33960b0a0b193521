use Rattle.std.proofs.Common.{◌%◌, sym, ◌∙◌, zero-le, arith}
use Rattle.decoder.specs.Receptions.{code, observed}
use Rattle.decoder.specs.Trellis.{columns}
use Rattle.decoder.proofs.Filled.{estimate_past}
use Rattle.decoder.proofs.Forward.{read_held}
use Rattle.decoder.proofs.trellis.TrellisMap.estimate.Goals as goal

pub returns-then-bits-len : goal.returns-then-bits-len
returns-then-bits-len c =
    let r = c.args.self.now.reception in
    let len = c.len.ensures.count in
    record { estimate = sym (estimate_past (code r) (observed r) (c.args.place % columns) (omega (arith, c.if-bits-len.true))) }

pub returns : goal.returns
returns c =
    let m = c.args.self.now in
    let j = c.args.place % columns in
    let len = c.len.ensures.count in
    record { estimate = c.read.ensures.read ∙ read_held m.reception.table.now m.reception.received.now j _ (m.exact j zero-le (omega (arith, c.if-bits-len.false))) }
