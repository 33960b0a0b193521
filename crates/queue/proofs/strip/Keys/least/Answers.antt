use Rattle.std.proofs.Common.{◌≡◌, ℕ, subst, arith}
use Rattle.queue.specs.Queues.{places}
use Rattle.queue.specs.Arrays.{strip_model}
use Rattle.queue.specs.Bounds.{strip_bounded}
use Rattle.queue.proofs.Scans.{Scanned, scan_all}
use Rattle.queue.proofs.strip.Keys.least.Goals as goal

pub returns : goal.returns
returns c =
    let s = c.args.self.now in
    let end : c.loop-place.place ≡ places = omega (arith, s.full) in
    record {
      least = scan_all (strip_model s) (strip_bounded s) c.loop-place.best (subst (λ (n : ℕ). Scanned (strip_model s).key n c.loop-place.best) end c.loop-place.invariant);
    }
