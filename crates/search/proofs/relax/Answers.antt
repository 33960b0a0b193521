use Rattle.std.proofs.Common.{arith}
use Rattle.search.proofs.Lowered.{relaxed_all, keeps_both}
use Rattle.search.proofs.relax.Goals as goal

pub loop-index-preserved : goal.loop-index-preserved
loop-index-preserved g c = (c.relax_edge.ensures.relaxing, keeps_both c.loop-index.invariant.1 c.relax_edge.ensures.keeps)

pub returns-clause-searching : goal.returns-clause-searching
returns-clause-searching g c = relaxed_all c.loop-index.invariant.0 (omega arith)
