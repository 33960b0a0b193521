use Rattle.search.specs.Frontiers.{Relaxing, Keeps}
use Rattle.search.proofs.relax.Given as goal

abbrev pub invariant-loop-index : goal.invariant-loop-index
invariant-loop-index g l = Relaxing (g.M.Map.graph l.map) l.costs (g.Q.Queue.model l.queue) l.place l.index × Keeps (g.M.Map.graph l.map) l.initial.costs l.costs (g.Q.Queue.model l.initial.queue) (g.Q.Queue.model l.queue)
