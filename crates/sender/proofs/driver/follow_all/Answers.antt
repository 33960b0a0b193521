use Rattle.std.proofs.Common.{◌+◌, List, ◌++◌, length, vec_items, refl, sym, ap, ◌∙◌, subst, of_calls, arith}
use Rattle.std.proofs.lemmas.List.{nil_from_length, length_push}
use Rattle.script.specs.Script.{lines}
use Rattle.sender.specs.declared.Line.{Line}
use Rattle.sender.specs.Effects.{start, listed, Runs}
use Rattle.sender.proofs.Followed.{Sofar, begins, this_line, no_line, sofar_more, sofar_last}
use Rattle.sender.proofs.driver.follow_all.Goals as goal

pub loop-i-init : goal.loop-i-init
loop-i-init c =
    let items = nil_from_length (vec_items c.args.account.now) (sym c.args.account.now.ok.0 ∙ c.requires.empty) in (
      search of_calls,
      search of_calls,
      omega (arith, c.requires.empty),
      refl,
      start,
      c.new-session.ensures.starts c.args.buffer.now,
      λ rs u runs. subst (λ (l : List Line). Runs (length c.args.buffer.now) 1 start (lines c.args.text.now) (l ++ rs) u) (sym items) runs,
    )

pub note-requires : goal.note-requires
note-requires c =
    let turn = this_line c.args.text.now _ _ c.next.new.self _ _ c.loop-i.yielded_by c.next.ensures.steps (begins _ _ _ _ c.into_iter-i-iterator.ensures.into_iter_gives c.enumerate-i-items.ensures.source c.enumerate-i-items.ensures.count c.new.ensures.left) c.in-Some.i c.in-Some.line c.in-Some.is in
    record { room = omega (arith, turn.0, c.loop-i.invariant.2, c.loop-i.invariant.3, c.requires.room) }

pub loop-i-preserved : goal.loop-i-preserved
loop-i-preserved c =
    let text = c.args.text.now in
    let size = length c.args.buffer.now in
    let k = length c.loop-i.yielded in
    let inv = c.loop-i.invariant in
    let turn = this_line c.args.text.now _ _ c.next.new.self _ _ c.loop-i.yielded_by c.next.ensures.steps (begins _ _ _ _ c.into_iter-i-iterator.ensures.into_iter_gives c.enumerate-i-items.ensures.source c.enumerate-i-items.ensures.count c.new.ensures.left) c.in-Some.i c.in-Some.line c.in-Some.is in
    let goes = c.in-Some.ensures.goes.on inv.1 in
    let report = c.follow-report.result.1 in
    let more = length_push c.loop-i.yielded (c.in-Some.i, c.in-Some.line) in
    let step = c.follow-report.ensures.does c.args.buffer.now inv.4 inv.5 in (
      goes.0,
      goes.1,
      omega (arith, inv.2, c.note.ensures.len, more),
      c.note.ensures.capacity ∙ inv.3,
      step.0,
      step.2,
      subst (λ n. Sofar size text n step.0 (vec_items c.note.new.lines)) (sym more)
          (subst (Sofar size text (k + 1) step.0) (sym (c.note.ensures.items ∙ ap (λ n. vec_items c.loop-i.account ++ listed (n + 1) report) turn.1))
          (sofar_more size text k inv.4 step.0 (vec_items c.loop-i.account) c.in-Some.line.now report inv.6 turn.0 turn.2 step.1)),
    )

pub returns : goal.returns
returns c =
    let inv = c.loop-i.invariant in
    let end = no_line c.args.text.now _ _ c.next.new.self _ _ c.loop-i.yielded_by c.next.ensures.steps (begins _ _ _ _ c.into_iter-i-iterator.ensures.into_iter_gives c.enumerate-i-items.ensures.source c.enumerate-i-items.ensures.count c.new.ensures.left) c.in-None.is in
    record { runs = (inv.4, sofar_last (length c.args.buffer.now) c.args.text.now (length c.loop-i.yielded) inv.4 (vec_items c.loop-i.account) inv.6 end, inv.5) }
