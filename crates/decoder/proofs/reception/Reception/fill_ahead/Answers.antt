use Rattle.std.proofs.Common.{◌≡◌, ℕ, length, get_or, set, sym, refl, ap, ◌∙◌, arith}
use Rattle.std.proofs.lemmas.List.{get_or-set_same}
use Rattle.codetable.specs.Tables.{words}
use Rattle.softvalues.specs.Received.{values}
use Rattle.decoder.specs.Estimates.{estimate, written}
use Rattle.decoder.specs.Laws.{estimate_end}
use Rattle.decoder.proofs.reception.Reception.fill_ahead.Goals as goal

pub loop-j-init : goal.loop-j-init
loop-j-init c =
    let ws = words c.args.self.now.table.now in
    let vs = values c.args.self.now.received.now in
    let ahead = c.args.ahead.now in
    let len = c.len-len.result in (
      λ i low high.
          let end : i ≡ length vs = omega arith in
          let here : i ≡ len = omega arith in
          ap (λ (n : ℕ). get_or (set ahead len 0) n 0) here ∙ get_or-set_same ahead len 0 0 (omega arith) ∙ sym (ap written (ap (estimate ws vs) end ∙ estimate_end ws vs)),
      λ i past. refl,
    )
