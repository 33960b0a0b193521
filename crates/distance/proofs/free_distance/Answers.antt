use Rattle.std.proofs.Common.{arith}
use Rattle.codetable.specs.Tables.{words}
use Rattle.distance.specs.Laws.{sound}
use Rattle.distance.proofs.Paths.{paths_are_pairs, free}
use Rattle.distance.proofs.Judging.{by_search}
use Rattle.distance.proofs.free_distance.Goals as goal

pub returns-then-len-lt2-clause-paths : goal.returns-then-len-lt2-clause-paths
returns-then-len-lt2-clause-paths g c = paths_are_pairs _ (sound c.args.table.now)

pub returns-in_err-found-clause-answer : goal.returns-in_err-found-clause-answer
returns-in_err-found-clause-answer g c =
    let s = sound c.args.table.now in
    let len = c.len.ensures.count in
    let refused = c.in_err-found.ensures.answer in
    by_search (words c.args.table.now) s (g.Q.Queue.model c.args.queue.now) c.args.costs.now _ _ _ _ (λ few. omega (arith, c.if-len-lt2.false)) c.in_err-found.field-0.0 c.from_residual.result c.from_residual.ensures.0 c.from_residual.ensures.1 refused.0 refused.1

pub returns-in_err-found-clause-paths : goal.returns-in_err-found-clause-paths
returns-in_err-found-clause-paths g c = paths_are_pairs _ (sound c.args.table.now)

pub returns-clause-answer : goal.returns-clause-answer
returns-clause-answer g c =
    let s = sound c.args.table.now in
    let len = c.len.ensures.count in
    let found = c.in_ok-found.ensures.answer in
    ((λ few. omega (arith, c.if-len-lt2.false), (found.0.0, tt)), (free (words c.args.table.now) s c.in_ok-found.found.limit found.1.0.limit, found.1.1))

pub returns-clause-paths : goal.returns-clause-paths
returns-clause-paths g c = paths_are_pairs _ (sound c.args.table.now)
