use Rattle.std.proofs.Math.Seq.{take-set-lt}
use Rattle.fixedvec.proofs.FixedVec.replace.Goals as goal

pub returns-clause-items : goal.returns-clause-items
returns-clause-items g c = take-set-lt _ _ _ _ c.if-i-self.false
