use Rattle.sender.proofs.session.Session.new.Goals as goal

pub returns : goal.returns
returns c = record { starts = λ before. record { table = c.new.ensures.empty; sent = c.new-2.ensures.carries before } }
