use Rattle.std.proofs.Common.{◌≡◌, ◌≤◌, length, vec_items, vec_len, vec_capacity}
use Rattle.sender.specs.Effects.{Progress}
use Rattle.sender.specs.Accounts.{Holds}
use Rattle.sender.proofs.Followed.{Sofar}
use Rattle.sender.proofs.driver.follow_all.Given as goal

-- the lines so far are followed, each with at most one line in the account
abbrev pub invariant-loop-i : goal.invariant-loop-i
invariant-loop-i l =
    (goal.iterator-loop-i).can_next l.i-iterator
    × (goal.iterator-loop-i).is_finite l.i-iterator
    × (vec_len l.account ≤ length l.yielded)
    × (vec_capacity l.account ≡ vec_capacity l.initial.account)
    × (t : Progress) × Holds t l.session l.initial.buffer l.buffer × Sofar (length l.initial.buffer) l.text (length l.yielded) t (vec_items l.account)
