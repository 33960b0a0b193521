use Rattle.std.proofs.Common.{List, length, Ok, Err, sym, refl, ap, ◌∙◌, subst}
use Rattle.refusal.specs.declared.Refusal.{Refusal}
use Rattle.refusal.specs.declared.Refusal.TheVariants.{Transfer}
use Rattle.refusal.specs.Refusals.{number, layer}
use Rattle.refusal.specs.Checks.{Check, FirstDue, NoneDue}
use Rattle.codetable.specs.declared.word.Codeword.{Codeword}
use Rattle.codetable.specs.Tables.{words}
use Rattle.codetable.proofs.Stored.{nth_there}
use Rattle.transfer.specs.declared.state.OpenTransfer.{OpenTransfer}
use Rattle.transfer.specs.Transfers.{sent_bits}
use Rattle.transfer.specs.Calls.{Carries, step_checks}
use Rattle.std.specs.List.{slice_get}
use Rattle.sender.specs.Effects.{with_sent, sends}
use Rattle.sender.proofs.Followed.{step_checks_same}
use Rattle.sender.proofs.session.Session.send.Goals as goal

pub returns-in-Ok : goal.returns-in-Ok
returns-in-Ok c =
    record {
      does = λ before s h.
          let told = c.in-Ok.ensures in
          let there = nth_there (words c.args.self.table) c.args.k told.answer.0.0 in
          let checks = subst NoneDue (step_checks_same s c.args.self before c.args.buffer.now h c.args.k) told.answer.0 in (
            with_sent s there.0,
            sends c.args.k (Ok tt) (with_sent s there.0) (checks, (there.0, ap (λ (ws : List Codeword). slice_get ws c.args.k) (sym h.table) ∙ there.1, refl)),
            record { table = h.table; sent = told.carries before s.sent there.0 h.sent there.1 },
          );
    }

pub returns-in-Err : goal.returns-in-Err
returns-in-Err c =
    record {
      does = λ before s h.
          let told = c.in-Err.ensures.answer in
          let due = subst (λ (cs : List Check). FirstDue cs (number (Transfer c.in-Err.fault))) (step_checks_same s c.args.self before c.args.buffer.now h c.args.k) told.0 in
          let checks = subst (λ (f : Refusal). FirstDue (step_checks s.words (length s.sent) (length (sent_bits s.sent)) c.args.k (length before)) (number f)) (sym c.into.ensures) due in (
            s,
            sends c.args.k (Err c.into.result) s (checks, (ap layer c.into.ensures, refl)),
            record {
              table = h.table;
              sent = subst (λ (o : OpenTransfer). Carries o before c.step.new.buffer s.sent) (sym told.1.0) (subst (λ (b : List _). Carries c.args.self.transfer before b s.sent) (sym told.1.1) h.sent);
            },
          );
    }
