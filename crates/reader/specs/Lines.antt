-- How a line of the account of a file reads.
use Rattle.std.specs.Prelude.{ℕ, List, ◌++◌, Ok, Err, Result, codes, decimal}
use Rattle.refusal.specs.Refusals.{text}
use Rattle.refusal.specs.declared.FileFault.TheVariants.{CutOff as stops}
use Rattle.refusal.specs.declared.Refusal.TheVariants.{File}
use Rattle.decoder.specs.Lists.{numbers, dotted}
use Rattle.loader.specs.Loaded.{loaded_text}
use Rattle.wordfile.specs.declared.Kind.{Kind}
use Rattle.wordfile.specs.Entries.{kind_name}
use Rattle.reader.specs.declared.Outcome.{Outcome}
use Rattle.reader.specs.declared.Outcome.TheVariants.{Done, Loaded, Distance}
use Rattle.reader.specs.declared.PlacedRefusal.{PlacedRefusal}
use Rattle.reader.specs.declared.line.Report.{Report}
use Rattle.reader.specs.declared.line.Report.TheVariants.{Word, CutOff}
use Rattle.reader.specs.declared.line.Line.{Line}

abbrev pub outcome_text : Outcome → List ℕ
outcome_text Done = codes "ok"
outcome_text (Loaded d l) = codes "ok " ++ loaded_text d ++ codes " " ++ dotted (numbers l)
outcome_text (Distance n) = codes "ok " ++ decimal n

abbrev pub report_text : Report → List ℕ
report_text (Word k (Ok o)) = kind_name k ++ codes " " ++ outcome_text o
report_text (Word k (Err r)) = kind_name k ++ codes " no " ++ text r
report_text CutOff = codes "FILE no " ++ text (File stops)

abbrev pub line_text : Line → List ℕ
line_text l = decimal l.place ++ codes " " ++ report_text l.report

-- the line of a word at a place, of a kind and with an answer; a refusal has its own place
abbrev pub word_line : ℕ → Kind → Result Outcome PlacedRefusal → Line
word_line place k (Ok o) = record { place = place; report = Word k (Ok o) }
word_line place k (Err p) = record { place = p.place; report = Word k (Err p.refusal) }
