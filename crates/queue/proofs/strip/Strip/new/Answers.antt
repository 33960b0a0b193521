use Rattle.queue.proofs.Scans.{blank_bare}
use Rattle.queue.proofs.strip.Strip.new.Goals as goal

pub returns-clause-bare : goal.returns-clause-bare
returns-clause-bare c = blank_bare c.new.result c.new.ensures.blank
