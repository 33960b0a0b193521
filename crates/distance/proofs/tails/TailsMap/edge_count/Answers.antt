use Rattle.std.proofs.Common.{◌≡◌, ◌-◌, ◌*◌, length, MatchOption, rules, ap, arith}
use Rattle.codetable.specs.Tables.{words}
use Rattle.distance.specs.Steps.{from_start, from_other}
use Rattle.distance.proofs.Indexed.{twice_pairs, tail_count}
use Rattle.distance.proofs.tails.TailsMap.edge_count.Goals as goal

pub returns-then-place-eq-START : goal.returns-then-place-eq-START
returns-then-place-eq-START c =
    let ws = words c.args.self.now.table in
    let all = ap length (from_start ws c.args.place c.if-place-eq-START.true) in
    let twice = twice_pairs 0 ws in
    let len = c.len-len.ensures.count in
    let less = c.saturating_sub.ensures in
    let product : c.len-len.result * c.saturating_sub.result ≡ length ws * (length ws - 1) = cc in
    record { count = omega arith }

pub returns : goal.returns
returns c =
    let ws = words c.args.self.now.table in
    let counted : MatchOption c.tail.result (c.map_or.result ≡ 0) (λ t. c.map_or.result ≡ length ws) = search rules in
    record {
      count = rw (from_other ws c.args.place c.if-place-eq-START.false) (tail_count ws c.args.place c.map_or.result c.tail.result c.tail.ensures.tail counted);
    }
