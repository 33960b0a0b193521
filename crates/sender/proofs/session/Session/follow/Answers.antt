use Rattle.std.proofs.Common.{length, None, Some, Ok, Option, Result, sym, ap, ◌∙◌, subst}
use Rattle.script.specs.declared.Entry.{Entry}
use Rattle.script.specs.declared.LineFault.{LineFault}
use Rattle.sender.specs.declared.Report.TheVariants.{Unread}
use Rattle.sender.specs.Effects.{Does, skipped, unread}
use Rattle.sender.proofs.session.Session.follow.Goals as goal

pub returns-in-Ok-None : goal.returns-in-Ok-None
returns-in-Ok-None c =
    record {
      does = λ before s h. (s, subst (λ (q : Result (Option Entry) LineFault). Does (length before) s q None s) (ap Ok (sym c.in-Ok-None.field-0-is) ∙ c.in-Ok-None.ensures.reads) skipped, h);
    }

pub returns-in-Err : goal.returns-in-Err
returns-in-Err c =
    let f = c.in-Err.fault in
    record {
      does = λ before s h. (s, subst (λ (q : Result (Option Entry) LineFault). Does (length before) s q (Some (Unread f)) s) c.in-Err.ensures.reads (unread f), h);
    }
