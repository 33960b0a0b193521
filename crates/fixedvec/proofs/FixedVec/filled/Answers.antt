use Rattle.std.proofs.Common.{min, take, replicate, ap, ◌∙◌, arith}
use Rattle.std.proofs.lemmas.List.{take-replicate}
use Rattle.fixedvec.proofs.FixedVec.filled.Goals as goal

pub returns : goal.returns
returns g c = record { items = ap (λ n. take n (replicate g.row.N c.args.item)) c.min.ensures ∙ take-replicate (min c.args.count g.row.N) g.row.N c.args.item (omega arith) }
