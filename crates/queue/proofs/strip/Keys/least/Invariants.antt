use Rattle.queue.specs.Arrays.{strip_model}
use Rattle.queue.proofs.Scans.{Scanned}
use Rattle.queue.proofs.strip.Keys.least.Given as goal

-- the best so far
abbrev pub invariant-loop-place : goal.invariant-loop-place
invariant-loop-place l = Scanned (strip_model l.self).key l.place l.best
