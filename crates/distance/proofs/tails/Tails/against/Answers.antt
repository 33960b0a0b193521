use Rattle.std.proofs.Common.{◌≡◌, ℕ, ◌+◌, Some, sym, ap, ◌∙◌, arith}
use Rattle.codetable.specs.Tables.{words}
use Rattle.distance.specs.Tails.{compared}
use Rattle.distance.specs.Steps.{against_at, against_past}
use Rattle.distance.proofs.Indexed.{stored_at}
use Rattle.distance.proofs.tails.Tails.against.Goals as goal

pub returns-in_err-word : goal.returns-in_err-word
returns-in_err-word c =
    let t = c.args.tail.now in
    record {
      edge = c.from_residual.ensures ∙ sym (against_past t.number t.word t.cut 0 (words c.args.self.now.table) c.args.index (sym c.in_err-word.ensures.found));
    }

pub compare-requires : goal.compare-requires
compare-requires c =
    let stored = stored_at c.args.self.now.table c.in_ok-word.ensures.found in
    record { number = omega arith; short = stored.1.1 }

pub returns : goal.returns
returns c =
    let t = c.args.tail.now in
    let b = c.in_ok-word.word in
    let number : c.args.index ≡ 0 + c.args.index = omega arith in
    record {
      edge = ap Some c.compare.ensures.edge ∙ ap (λ (n : ℕ). Some (compared t.number t.word t.cut n b)) number ∙ sym (against_at t.number t.word t.cut 0 (words c.args.self.now.table) c.args.index b (sym c.in_ok-word.ensures.found));
    }
