use Rattle.std.proofs.Common.{refl}
use Rattle.worked.proofs.Examples.{worked_lines_lem}
use Rattle.worked.proofs.worked_lines.Goals as goal

pub returns : goal.returns
returns c = record { lines = worked_lines_lem; count = refl }
