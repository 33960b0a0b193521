use Rattle.std.proofs.Common.{◌≡◌, ℕ, ◌*◌, ◌≤◌, take, drop, ℤ}
use Rattle.codetable.specs.Codewords.{bits}
use Rattle.softvalues.specs.Received.{values}
use Rattle.decoder.specs.Metrics.{if_contradicted, over, Computes}
use Rattle.decoder.proofs.reception.sum_contradicted.Given as goal

-- the bits so far are laid
abbrev pub invariant-loop-i : goal.invariant-loop-i
invariant-loop-i g l = record {
  low : l.sum ≤ 255 * l.i;
  laid : (f : ℤ → ℕ) → Computes (goal.F-post g l.cost) f → l.sum ≡ over (if_contradicted f) (take l.i (bits l.word)) (drop l.at (values l.received));
}
