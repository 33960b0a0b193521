use Rattle.std.proofs.Common.{ℕ, sym, ap, ◌∙◌}
use Rattle.queue.specs.Queues.{tally}
use Rattle.queue.specs.Arrays.{strip_model}
use Rattle.queue.proofs.Tallies.{tally_cells}
use Rattle.queue.proofs.strip.StripQueue.held.Goals as goal

pub returns : goal.returns
returns c =
    let s = c.args.self.now.inner in
    record { count = c.count.ensures.count ∙ (sym (tally_cells s.at) ∙ ap (λ (n : ℕ). tally (strip_model s).key n) s.full) }
