use Rattle.std.proofs.Common.{ℕ, List, sym, ap, ◌∙◌}
use Rattle.codetable.specs.Tables.{words}
use Rattle.search.specs.Graphs.{nth as edge_nth}
use Rattle.softvalues.specs.Received.{values}
use Rattle.decoder.specs.Steps.{edges_within, edges_past}
use Rattle.decoder.proofs.trellis.TrellisMap.edge.Goals as goal

pub returns-then-stage-self : goal.returns-then-stage-self
returns-then-stage-self c =
    let ws = words c.args.self.now.reception.table.now in
    let vs = values c.args.self.now.reception.received.now in
    record {
      edge = c.step.ensures.edge ∙ sym (ap (λ (es : List (ℕ × ℕ)). edge_nth es c.args.index) (edges_within ws vs c.args.self.now.count c.args.place c.if-stage-self.true));
    }

pub returns-else-stage-self : goal.returns-else-stage-self
returns-else-stage-self c =
    let ws = words c.args.self.now.reception.table.now in
    let vs = values c.args.self.now.reception.received.now in
    record {
      edge = sym (ap (λ (es : List (ℕ × ℕ)). edge_nth es c.args.index) (edges_past ws vs c.args.self.now.count c.args.place c.if-stage-self.false));
    }
