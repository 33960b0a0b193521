-- What each line of a text does, and what a whole text does.
use Rattle.std.specs.Prelude.{◌≡◌, ℕ, ◌+◌, List, [], ◌∷◌, ◌++◌, length, Some, None, Ok, Err, Option, Result}
use Rattle.std.specs.List.{slice_get}
use Rattle.std.specs.Option.{unwrap_or}
use Rattle.refusal.specs.declared.Refusal.{Refusal}
use Rattle.refusal.specs.declared.Layer.TheVariants.{Table, Transfer}
use Rattle.refusal.specs.Refusals.{layer}
use Rattle.refusal.specs.Checks.{Judged}
use Rattle.codetable.specs.declared.word.Codeword.{Codeword}
use Rattle.codetable.specs.Tables.{word_checks}
use Rattle.transfer.specs.Transfers.{sent_bits}
use Rattle.transfer.specs.Calls.{step_checks}
use Rattle.script.specs.declared.Entry.{Entry}
use Rattle.script.specs.declared.Entry.TheVariants.{Word, Step}
use Rattle.script.specs.declared.LineFault.{LineFault}
use Rattle.script.specs.Script.{fields, reading}
use Rattle.sender.specs.declared.Line.{Line}
use Rattle.sender.specs.declared.Report.{Report}
use Rattle.sender.specs.declared.Report.TheVariants as report

-- what a text has entered so far: the words of the table, and the words sent, in order
pub record Progress : Type 0 where
  pub words : List Codeword
  pub sent : List Codeword

-- at the start there are no words, and none is sent
abbrev pub start : Progress
start = record { words = []; sent = [] }

-- a word with its weight, which is 0 where none is given
abbrev pub weighed : ℕ → ℕ → Option ℕ → Codeword
weighed n v x = record { len = n; value = v; weight = unwrap_or x 0 }

-- a word is entered behind the others
abbrev pub with_word : Progress → Codeword → Progress
with_word s w = record { words = s.words ++ w ∷ []; sent = s.sent }

-- a word is sent behind the others
abbrev pub with_sent : Progress → Codeword → Progress
with_sent s w = record { words = s.words; sent = s.sent ++ w ∷ [] }

-- What one line does, by what it says, and what is reported of it. A refused line changes nothing.
-- `size` is the size of the buffer that the transfer is written to.
pub data Does (size : ℕ) (s : Progress) : Result (Option Entry) LineFault → Option Report → Progress → Type 0 where
  skipped : Does size s (Ok None) None s
  unread : (f : LineFault) → Does size s (Err f) (Some (report.Unread f)) s
  enters : (n v : ℕ) (x : Option ℕ) (r : Result Unit Refusal) (t : Progress) → Judged (word_checks s.words n v) (λ f. f) r (λ _. t ≡ with_word s (weighed n v x)) (λ f. (layer f ≡ Table) × (t ≡ s)) → Does size s (Ok (Some (Word n v x))) (Some (report.Word r)) t
  sends : (k : ℕ) (r : Result Unit Refusal) (t : Progress) → Judged (step_checks s.words (length s.sent) (length (sent_bits s.sent)) k size) (λ f. f) r (λ _. (w : Codeword) × (slice_get s.words k ≡ Some w) × (t ≡ with_sent s w)) (λ f. (layer f ≡ Transfer) × (t ≡ s)) → Does size s (Ok (Some (Step k))) (Some (report.Step r)) t

-- the lines of the account that one line of the text gives
abbrev pub listed : ℕ → Option Report → List Line
listed n None = []
listed n (Some r) = record { number = n; report = r } ∷ []

-- the lines of a text, the first of them with number n, lead from s to u, and these lines account for it
pub data Runs (size : ℕ) : ℕ → Progress → List (List ℕ) → List Line → Progress → Type 0 where
  ends : (n : ℕ) (s : Progress) → Runs size n s [] [] s
  goes : (n : ℕ) (s t u : Progress) (l : List ℕ) (ls : List (List ℕ)) (o : Option Report) (rs : List Line) → Does size s (reading (fields l)) o t → Runs size (n + 1) t ls rs u → Runs size n s (l ∷ ls) (listed n o ++ rs) u
