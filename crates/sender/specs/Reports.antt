-- How a line of the account reads, and which lines are accepted.
use Rattle.std.specs.Prelude.{ℕ, Bool, false, List, ◌++◌, is_ok, Ok, Err, codes, decimal}
use Rattle.std.specs.List.{list_all}
use Rattle.refusal.specs.Refusals.{text}
use Rattle.script.specs.Script.{reason}
use Rattle.sender.specs.declared.Line.{Line}
use Rattle.sender.specs.declared.Report.{Report}
use Rattle.sender.specs.declared.Report.TheVariants.{Word, Step, Unread}

abbrev pub report_text : Report → List ℕ
report_text (Word (Ok x)) = codes " word ok"
report_text (Word (Err r)) = codes " word no " ++ text r
report_text (Step (Ok x)) = codes " step ok"
report_text (Step (Err r)) = codes " step no " ++ text r
report_text (Unread f) = codes " line no " ++ reason f

abbrev pub line_text : Line → List ℕ
line_text l = decimal l.number ++ report_text l.report

abbrev pub accepted : Report → Bool
accepted (Word r) = is_ok r
accepted (Step r) = is_ok r
accepted (Unread f) = false

abbrev pub all_accepted : List Line → Bool
all_accepted ls = list_all (λ l. accepted l.report) ls
