use Rattle.std.proofs.Common.{◌≡◌, ℕ, ◌<◌, ◌≤◌, length, get_or}
use Rattle.codetable.specs.Tables.{words}
use Rattle.softvalues.specs.Received.{values}
use Rattle.decoder.specs.Estimates.{estimate, written}
use Rattle.decoder.proofs.reception.Reception.fill_ahead.Given as goal

-- the estimates from j on are written, and the memory behind the last is as before
abbrev pub invariant-loop-j : goal.invariant-loop-j
invariant-loop-j l =
    ((i : ℕ) → l.j ≤ i → i ≤ length (values l.self.received.now) → get_or l.ahead i 0 ≡ written (estimate (words l.self.table.now) (values l.self.received.now) i)) ×
    ((i : ℕ) → length (values l.self.received.now) < i → get_or l.ahead i 0 ≡ get_or l.initial.ahead i 0)
