use Rattle.std.proofs.Common.{cond, is_some, rules, arith}
use Rattle.std.proofs.lemmas.Iterator.{YieldsList-from_slice, YieldsList-from_map}
use Rattle.std.proofs.lemmas.Iterator.Consumers.{YieldsList-at, fits_by_from_yields_list}
use Rattle.std.proofs.lemmas.List.Sums.{count_by-le-length}
use Rattle.queue.proofs.strip.Keys.count.Goals as goal

pub sum-requires-clause-fits : goal.sum-requires-clause-fits
sum-requires-clause-fits c =
    let s = c.args.self.now in
    let few = count_by-le-length is_some s.at in
    fits_by_from_yields_list (λ cell. cond (is_some cell) 1 0) s.at c.map.result _
    (YieldsList-from_map _ (λ cell. cond (is_some cell) 1 0) (YieldsList-at c.map.ensures.source (YieldsList-from_slice s.at (cc))) c.map.ensures.closure (λ x r q k. search rules))
    (omega (arith, s.full))
