use Rattle.std.proofs.Common.{Bool, ◌&&◌, is_ok, vec_items, sym, ap, ◌∙◌, rules, tests}
use Rattle.std.proofs.lemmas.Iterator.{YieldsList-from_slice}
use Rattle.std.proofs.lemmas.Iterator.Search.{all_from_yields_List}
use Rattle.sender.specs.Reports.{accepted}
use Rattle.sender.proofs.Account.accepted.Goals as goal

pub returns-then-all : goal.returns-then-all
returns-then-all c =
    let lines = vec_items c.args.self.now.lines in
    let all = all_from_yields_List (λ l. accepted l.report) _ _ c.all.result c.all.ensures.ran (YieldsList-from_slice lines cc) (λ x b q k. search (rules, tests)) in
    record { value = c.is_ok.ensures.value ∙ ap (λ (b : Bool). b && is_ok c.args.self.now.closed) (sym c.if-all.true ∙ all) }
