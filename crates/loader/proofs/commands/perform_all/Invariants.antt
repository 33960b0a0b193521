use Rattle.std.proofs.Common.{◌≡◌, vec_items, vec_len, vec_capacity}
use Rattle.loader.specs.Held.{sheet}
use Rattle.loader.specs.Sheets.{blank}
use Rattle.loader.proofs.Continued.{Sofar}
use Rattle.loader.proofs.commands.perform_all.Given as goal

-- the commands so far are done, and there is room for the other answers
abbrev pub invariant-loop-command : goal.invariant-loop-command
invariant-loop-command g l = (vec_len l.answers ≡ l.command-index) × (vec_capacity l.answers ≡ vec_capacity l.initial.answers) × Sofar g.Q.Queue.model blank l.initial.commands l.commands (vec_items l.answers) l.command-index (sheet l.loader)
