use Rattle.std.proofs.Common.{arith}
use Rattle.search.proofs.Ahead.{no_estimate}
use Rattle.search.proofs.Lowered.{relaxed_edge, relaxed_more, sum_fits, inside}
use Rattle.search.proofs.relax_edge.Goals as goal

pub overflow_add-cost : goal.overflow_add-cost
overflow_add-cost g c =
    omega (arith, sum_fits (g.M.Map.lawful c.args.map.now) c.requires.relaxing c.in-Some.ensures.edge c.in-Some-estimate.ensures.estimate)

pub lower-requires : goal.lower-requires
lower-requires g c =
    let law = g.M.Map.lawful c.args.map.now in
    let fits = sum_fits law c.requires.relaxing c.in-Some.ensures.edge c.in-Some-estimate.ensures.estimate in
    let below = inside law c.requires.relaxing c.in-Some.ensures.edge c.in-Some-estimate.ensures.estimate in
    let f = c.requires.relaxing.frontier in
    record { room = omega arith; long = omega arith; fits = omega arith }

pub returns-in-Some-estimate : goal.returns-in-Some-estimate
returns-in-Some-estimate g c =
    let w = relaxed_edge (g.M.Map.lawful c.args.map.now) c.requires.relaxing c.in-Some.ensures.edge c.in-Some-estimate.ensures.estimate c.lower.ensures.lowered in
    record { relaxing = w.0; keeps = w.1 }

pub returns-in_default-estimate-clause-relaxing : goal.returns-in_default-estimate-clause-relaxing
returns-in_default-estimate-clause-relaxing g c =
    relaxed_more c.requires.relaxing (no_estimate (g.M.Map.graph c.args.map.now) c.args.costs.now c.args.place c.args.index c.in-Some.to c.in-Some.edge_cost c.in-Some.ensures.edge c.in_default-estimate.ensures.estimate)
