use Rattle.std.proofs.Common.{List, length, Some, Ok, sym, subst}
use Rattle.codetable.specs.declared.word.Codeword.{Codeword}
use Rattle.codetable.specs.Tables.{words}
use Rattle.transfer.specs.Calls.{Carries}
use Rattle.script.specs.declared.Entry.{Entry}
use Rattle.sender.specs.declared.Report.TheVariants as report
use Rattle.sender.specs.Effects.{weighed, Does, enters}
use Rattle.sender.proofs.Followed.{entered_progress}
use Rattle.sender.proofs.session.Session.follow_entry.Goals as goal

pub returns-in-Word : goal.returns-in-Word
returns-in-Word c =
    let e = c.in-Word in
    record {
      does = λ before s h.
          let p = entered_progress s (words c.args.self.table) (words c.enter-answer.new.table) e.len e.value (weighed e.len e.value e.weight) c.enter-answer.result h.table c.enter-answer.ensures.answer in (
            p.0,
            subst (λ (q : Entry). Does (length before) s (Ok (Some q)) (Some (report.Word c.enter-answer.result)) p.0) (sym e.is) (enters e.len e.value e.weight c.enter-answer.result p.0 p.1),
            record {
              table = p.2;
              sent = subst (λ (l : List Codeword). Carries c.args.self.transfer before c.args.buffer.now l) p.3 h.sent;
            },
          );
    }
