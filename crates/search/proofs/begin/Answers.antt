use Rattle.std.proofs.Common.{arith}
use Rattle.search.proofs.Begun.{begun_bare, begun_start}
use Rattle.search.proofs.begin.Goals as goal

pub returns-in-Some-clause-searching : goal.returns-in-Some-clause-searching
returns-in-Some-clause-searching g c =
    begun_start (g.M.Map.lawful c.args.map.now) c.size.ensures.size c.start-start.ensures.start c.requires.room (omega (arith, c.requires.long)) c.clear.ensures.cleared c.empty.ensures.emptied c.in-Some.ensures.estimate (omega arith) c.lower.ensures.lowered

pub returns-in_default-clause-searching : goal.returns-in_default-clause-searching
returns-in_default-clause-searching g c =
    begun_bare (g.M.Map.lawful c.args.map.now) c.size.ensures.size c.start-start.ensures.start c.requires.room (omega (arith, c.requires.long)) c.clear.ensures.cleared c.empty.ensures.emptied c.in_default.ensures.estimate
