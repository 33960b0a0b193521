use Rattle.std.proofs.Common.{◌+◌, List, [], set, vec_items, sym, refl, ◌∙◌, subst, arith}
use Rattle.loader.specs.declared.commands.Answer.{Answer}
use Rattle.loader.specs.declared.commands.Command.{Command}
use Rattle.loader.specs.Held.{sheet}
use Rattle.loader.specs.Sheets.{Sheet, blank}
use Rattle.loader.specs.Histories.{Acts, History, ends}
use Rattle.loader.proofs.Continued.{Sofar, sofar_more}
use Rattle.loader.proofs.commands.perform_all.Goals as goal

pub loop-command-init : goal.loop-command-init
loop-command-init g c =
    let none = c.clear.ensures.items in (
      c.clear.ensures.len,
      refl,
      record {
        done = subst (λ (l : List Answer). History g.Q.Queue.model blank [] [] l (sheet c.new-loader.result)) (sym none) (subst (λ (s : Sheet). History g.Q.Queue.model blank [] [] [] s) (sym c.new-loader.ensures.blank) (ends blank));
        rest = refl;
      },
    )

pub loop-command-preserved : goal.loop-command-preserved
loop-command-preserved g c =
    let inv = c.loop-command.invariant in
    let before = c.args.commands.now in
    let now = c.loop-command.commands in
    let i = c.loop-command.command-index in
    let item = c.command-item.result in
    let d = c.perform-answer.new.command in
    let a = c.perform-answer.result in
    let t = sheet c.loop-command.loader in
    let u = sheet c.perform-answer.new.loader in
    let less = c.loop-command-test.true in
    let long = c.loop-command.auto.commands in
    let acts : Acts g.Q.Queue.model t item d a u = subst (λ (x : Command g.row.Q.Denot). Acts g.Q.Queue.model t x d a u) (sym c.command-item.is) c.perform-answer.ensures.acts in (
      omega (arith, c.push_reserved.ensures.len, inv.0),
      c.push_reserved.ensures.capacity ∙ inv.1,
      subst (λ (l : List Answer). Sofar g.Q.Queue.model blank before (set now i d) l (i + 1) u) (sym c.push_reserved.ensures.items) (sofar_more g.Q.Queue.model blank t u before now (vec_items c.loop-command.answers) i item d a inv.2 (omega arith) (omega arith) c.command-item.is acts),
    )
