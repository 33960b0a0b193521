use Rattle.codetable.specs.Tables.{words}
use Rattle.fixedvec.specs.Items.{items}
use Rattle.softvalues.specs.Received.{values}
use Rattle.decoder.proofs.Reading.{Reading}
use Rattle.decoder.proofs.trace.Trace.read_back.Given as goal

abbrev pub invariant-loop-stage : goal.invariant-loop-stage
invariant-loop-stage l = Reading (words l.self.reception.table.now) (values l.self.reception.received.now) l.self.count l.self.costs.now (items l.list) l.changed l.bits l.stage
