use Rattle.std.proofs.Common.{refl, arith}
use Rattle.transfer.proofs.Carried.{finished_delivers}
use Rattle.transfer.proofs.state.OpenTransfer.close.Goals as goal

pub returns-clause-delivers : goal.returns-clause-delivers
returns-clause-delivers c before sent h =
    finished_delivers c.args.self before c.args.buffer.now c.put_end.new.buffer sent h _ (omega arith) (record { steps = refl; bits = refl; buffer = c.put_end.ensures.written })
