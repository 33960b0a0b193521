use Rattle.std.proofs.Common.{sym, refl, ap, arith}
use Rattle.search.specs.Searches.{cost_at}
use Rattle.search.specs.Frontiers.{settled}
use Rattle.search.proofs.Counting.{tally_blank}
use Rattle.search.proofs.Taken.{running_more, taken_relaxing, count_room}
use Rattle.search.proofs.run.Goals as goal

pub loop-place-init : goal.loop-place-init
loop-place-init g c =
    record {
      searching = c.requires.searching;
      count = sym (tally_blank (settled c.args.costs.now (g.Q.Queue.model c.args.queue.now)) (g.M.Map.graph c.args.map.now).size c.requires.none);
      beyond = record { size = refl; rest = λ p past. refl };
    }

pub relax-requires : goal.relax-requires
relax-requires g c =
    record { relaxing = taken_relaxing (g.M.Map.lawful c.args.map.now) c.loop-place.invariant.searching c.in-Some.ensures.takes (ap (cost_at c.loop-place.costs) c.finish-finish.ensures.finish) }

pub overflow_add-opened : goal.overflow_add-opened
overflow_add-opened g c =
    let room = count_room (g.M.Map.lawful c.args.map.now) c.loop-place.invariant.searching c.in-Some.ensures.takes (ap (cost_at c.loop-place.costs) c.finish-finish.ensures.finish) in
    omega (arith, c.loop-place.invariant.count, c.loop-place.invariant.searching.frontier.long)

pub loop-place-smaller : goal.loop-place-smaller
loop-place-smaller g c =
    let room = count_room (g.M.Map.lawful c.args.map.now) c.loop-place.invariant.searching c.in-Some.ensures.takes (ap (cost_at c.loop-place.costs) c.finish-finish.ensures.finish) in
    omega (arith, c.loop-place.invariant.count)

pub loop-place-preserved : goal.loop-place-preserved
loop-place-preserved g c =
    running_more (g.M.Map.lawful c.args.map.now) c.loop-place.invariant c.in-Some.ensures.takes (ap (cost_at c.loop-place.costs) c.finish-finish.ensures.finish) c.relax.ensures.searching c.relax.ensures.keeps (omega arith)
