-- The account of a whole text.
use Rattle.std.specs.Prelude.{◌≡◌, ℕ, List, [], length, vec_items, Option, Result}
use Rattle.refusal.specs.declared.TransferFault.{TransferFault}
use Rattle.refusal.specs.declared.Refusal.TheVariants.{Transfer}
use Rattle.refusal.specs.Checks.{Judged}
use Rattle.codetable.specs.declared.word.Codeword.{Codeword}
use Rattle.codetable.specs.Tables.{words}
use Rattle.transfer.specs.declared.state.ClosedTransfer.{ClosedTransfer}
use Rattle.transfer.specs.Transfers.{sent_bits}
use Rattle.transfer.specs.Calls.{close_checks, Carries, Delivers}
use Rattle.script.specs.declared.Entry.{Entry}
use Rattle.script.specs.declared.LineFault.{LineFault}
use Rattle.script.specs.Script.{lines}
use Rattle.sender.specs.declared.Account.{Account}
use Rattle.sender.specs.declared.Report.{Report}
use Rattle.sender.specs.declared.session.Session.{Session}
use Rattle.sender.specs.Effects.{Progress, start, Does, Runs}

-- The session stands where the text has come: it has the words entered, and its transfer carries the words sent,
-- in a buffer that was `before`.
pub record Holds (s : Progress) (session : Session) (before now : List ℕ) : Type 0 where
  pub table : words session.table ≡ s.words
  pub sent : Carries session.transfer before now s.sent

-- A line that says `said` takes the session and the buffer from one state to another, and `told` is reported of it:
-- wherever the text has come, the line leads on from there.
abbrev pub Leads : Result (Option Entry) LineFault → Option Report → Session → List ℕ → Session → List ℕ → Type 0
Leads said told from now to after =
    (before : List ℕ) (s : Progress) → Holds s from before now → (t : Progress) × Does (length before) s said told t × Holds t to before after

-- The transfer of the words sent is closed into a buffer that was `before`, whose rest stays as it was.
-- Where the buffer is too short for that, no word was sent, and the buffer is as it was.
abbrev pub Closes : List ℕ → List Codeword → Result ClosedTransfer TransferFault → List ℕ → Type 0
Closes before sent r after =
    Judged (close_checks (length (sent_bits sent)) (length before)) Transfer r (λ c. Delivers c before after sent) (λ _. (sent ≡ []) × (after ≡ before))

-- The text leads from the start to `progress`; the account has its lines and its table, and the transfer
-- of the words sent is closed.
pub record Accounts (text before : List ℕ) (a : Account) (after : List ℕ) : Type 0 where
  pub progress : Progress
  pub runs : Runs (length before) 1 start (lines text) (vec_items a.lines) progress
  pub table : words a.table ≡ progress.words
  pub closed : Closes before progress.sent a.closed after
