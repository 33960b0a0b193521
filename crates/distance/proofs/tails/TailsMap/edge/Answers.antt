use Rattle.codetable.specs.Tables.{words}
use Rattle.distance.specs.Steps.{from_start, from_other}
use Rattle.distance.proofs.Indexed.{tail_row}
use Rattle.distance.proofs.tails.TailsMap.edge.Goals as goal

pub returns-then-place-eq-START : goal.returns-then-place-eq-START
returns-then-place-eq-START c =
    record { edge = rw (from_start (words c.args.self.now.table) c.args.place c.if-place-eq-START.true) c.pair.ensures.edge }

pub returns-in_err-tail : goal.returns-in_err-tail
returns-in_err-tail c =
    record {
      edge = rw (from_other (words c.args.self.now.table) c.args.place c.if-place-eq-START.false, c.in_err-tail.ensures.tail) c.from_residual.ensures;
    }

pub returns : goal.returns
returns c =
    let ws = words c.args.self.now.table in
    record {
      edge = rw (from_other ws c.args.place c.if-place-eq-START.false, tail_row ws c.args.place c.in_ok-tail.tail c.in_ok-tail.ensures.tail) c.against.ensures.edge;
    }
