use Rattle.std.proofs.Common.{rules}
use Rattle.queue.proofs.Scans.{blank_bare}
use Rattle.queue.proofs.strip.StripQueue.empty.Goals as goal

pub returns : goal.returns
returns c = search (rules, blank_bare)
