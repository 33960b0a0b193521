use Rattle.std.proofs.Common.{◌-◌}
use Rattle.search.proofs.Taken.{Running}
use Rattle.search.proofs.run.Given as goal

abbrev pub invariant-loop-place : goal.invariant-loop-place
invariant-loop-place g l = Running (g.M.Map.graph l.map) l.initial.costs l.costs (g.Q.Queue.model l.initial.queue) (g.Q.Queue.model l.queue) l.opened

abbrev pub decreases-loop-place : goal.decreases-loop-place
decreases-loop-place g l = (g.M.Map.graph l.map).size - l.opened
