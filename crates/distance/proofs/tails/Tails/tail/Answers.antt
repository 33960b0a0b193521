use Rattle.std.proofs.Common.{arith}
use Rattle.distance.proofs.Indexed.{stored_at}
use Rattle.distance.proofs.tails.Tails.tail.Goals as goal

pub invariant_of-result : goal.invariant_of-result
invariant_of-result c =
    let stored = stored_at c.args.self.now.table c.in_ok-word.ensures.found in
    record { numbered = omega arith; short = stored.1.1; within = omega arith }
