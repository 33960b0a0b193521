use Rattle.std.proofs.Common.{◌≡◌, sym, refl, ap, ◌∙◌, inl, inr, ⊎_elim, arith}
use Rattle.search.specs.Graphs.{unknown}
use Rattle.search.specs.Searches.{cost_at}
use Rattle.search.proofs.Lowered.{beyond_both}
use Rattle.search.proofs.Ended.{ends_none, ended_none, finds, leaves}
use Rattle.search.proofs.search.Goals as goal

pub returns-then-limit : goal.returns-then-limit
returns-then-limit g c =
    let law = g.M.Map.lawful c.args.map.now in
    let run = c.run-opened.ensures in
    let lacks : cost_at c.run-opened.new.costs (g.M.Map.graph c.args.map.now).finish ≡ unknown = ap (cost_at c.run-opened.new.costs) (sym c.finish.ensures.finish) ∙ c.if-limit.true in
    record {
      answer = (
        inr (λ few. ⊎_elim (λ h. omega arith) (λ h. omega arith) few, inl (ends_none law run.searching lacks run.over, refl)),
        leaves law run.searching (ended_none law run.searching lacks run.over) (beyond_both c.begin.ensures.beyond run.beyond),
      );
    }

pub returns : goal.returns
returns g c =
    let law = g.M.Map.lawful c.args.map.now in
    let run = c.run-opened.ensures in
    let found = finds law run.searching c.finish.ensures.finish c.if-limit.false run.over run.opened c.held.ensures.count in
    record {
      answer = (
        (λ few. ⊎_elim (λ h. omega arith) (λ h. omega arith) few, (found.0, tt)),
        (found.1, leaves law run.searching found.2 (beyond_both c.begin.ensures.beyond run.beyond)),
      );
    }
