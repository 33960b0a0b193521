use Rattle.std.proofs.Common.{◌/◌, ◌%◌, length, sym, ap, ◌∙◌}
use Rattle.decoder.specs.Receptions.{code, observed}
use Rattle.decoder.specs.Trellis.{columns}
use Rattle.decoder.specs.Steps.{edges_within, edges_past}
use Rattle.decoder.proofs.Rows.{length-row}
use Rattle.decoder.proofs.trellis.TrellisMap.edge_count.Goals as goal

pub returns-then-stage-self : goal.returns-then-stage-self
returns-then-stage-self c =
    let r = c.args.self.now.reception in
    let p = c.args.place in
    record {
      count = c.fitting.ensures.count ∙ sym (ap length (edges_within (code r) (observed r) c.args.self.now.count p c.if-stage-self.true) ∙ length-row (observed r) (p / columns) (p % columns) (code r));
    }

pub returns-else-stage-self : goal.returns-else-stage-self
returns-else-stage-self c =
    let r = c.args.self.now.reception in
    record { count = sym (ap length (edges_past (code r) (observed r) c.args.self.now.count c.args.place c.if-stage-self.false)) }
