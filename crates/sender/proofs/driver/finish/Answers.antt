use Rattle.std.proofs.Common.{rules}
use Rattle.sender.proofs.Followed.{closes}
use Rattle.sender.proofs.driver.finish.Goals as goal

pub returns : goal.returns
returns c =
    record {
      closed = λ before sent h. closes c.args.transfer before c.args.buffer.now c.close.new.buffer sent h c.close.result c.map_err.result _ (λ e d k. search rules) c.close.ensures.answer (c.close.ensures.delivers before sent h) c.map_err.ensures.cases;
    }
