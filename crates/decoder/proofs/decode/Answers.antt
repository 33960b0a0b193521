use Rattle.std.proofs.Common.{length, refl, inl, inr, ⊎_elim, arith}
use Rattle.codetable.specs.Tables.{words}
use Rattle.softvalues.specs.Received.{values}
use Rattle.decoder.specs.Lists.{numbers}
use Rattle.decoder.specs.Laws.{sound_of}
use Rattle.decoder.proofs.Corrected.{corrects}
use Rattle.decoder.proofs.Ranked.{least_metric}
use Rattle.decoder.proofs.Deciding.{by_found}
use Rattle.decoder.proofs.decode.Goals as goal
use Rattle.decoder.proofs.decode.Goals.{then-size-via-then-size, then-size-via-else-size+then-costs-size, then-size-via-else-size+else-costs-size+then-ahead-len}

pub returns-then-size-clause-answer : goal.returns-then-size-clause-answer
returns-then-size-clause-answer g c =
    let len = c.len.ensures.count in
    let place = c.place_of-size.ensures.place in
    let size = c.size.ensures.size in (
      inr (
        ⊎_elim (λ h. omega (arith, c.if-count-lt1.false)) (λ h. omega (arith, c.if-count-gt-MOST_LIST.false)),
        inl (
          elim c.then-size.branch [
            | then-size-via-then-size x ↦ inl (omega (arith, x.if-size.true))
            | then-size-via-else-size+then-costs-size x ↦ inr (inl (omega (arith, x.if-costs-size.true)))
            | then-size-via-else-size+else-costs-size+then-ahead-len x ↦ inr (inr (omega (arith, x.if-ahead-len.true, x.len-else-costs-size.ensures.count)))
          ],
          refl,
        ),
      ),
      (refl, refl, refl),
    )

pub returns-in_err-limit-clause-answer : goal.returns-in_err-limit-clause-answer
returns-in_err-limit-clause-answer g c =
    let t = c.args.table.now in
    let v = c.args.received.now in
    let len = c.len.ensures.count in
    let len' = c.len-else-costs-size.ensures.count in
    let place = c.place_of-size.ensures.place in
    let size = c.size.ensures.size in
    let low = c.if-count-lt1.false in
    let high = c.if-count-gt-MOST_LIST.false in
    let s = sound_of t v c.args.count (omega arith) in
    let refused = c.in_err-limit.ensures.answer in
    by_found (words t) (values v) c.args.count s (g.Q.Queue.model c.args.queue.now) (g.Q.Queue.model c.search.new.queue) c.args.costs.now c.search.new.costs c.args.ahead.now c.fill_ahead.new.ahead _ _ _ _ (⊎_elim (λ h. omega arith) (λ h. omega arith)) (⊎_elim (λ h. omega (arith, c.if-size.false)) (⊎_elim (λ h. omega (arith, c.if-costs-size.false)) (λ h. omega (arith, c.if-ahead-len.false)))) c.fill_ahead.ensures.ahead c.in_err-limit.field-0.0 c.from_residual.result c.from_residual.ensures.0 c.from_residual.ensures.1 refused.0 refused.1

pub returns-clause-answer : goal.returns-clause-answer
returns-clause-answer g c =
    let t = c.args.table.now in
    let v = c.args.received.now in
    let len = c.len.ensures.count in
    let len' = c.len-else-costs-size.ensures.count in
    let place = c.place_of-size.ensures.place in
    let size = c.size.ensures.size in
    let low = c.if-count-lt1.false in
    let high = c.if-count-gt-MOST_LIST.false in
    let s = sound_of t v c.args.count (omega arith) in
    let found = c.in_ok-limit.ensures.answer in
    let best = c.read_back-changed.ensures.best in (
      (⊎_elim (λ h. omega arith) (λ h. omega arith), (⊎_elim (λ h. omega (arith, c.if-size.false)) (⊎_elim (λ h. omega (arith, c.if-costs-size.false)) (λ h. omega (arith, c.if-ahead-len.false))), (λ none. none (numbers c.read_back-changed.result.0) best.fits, tt))),
      (
        record {
          best = best;
          its_metric = least_metric (words t) (values v) c.args.count s c.args.count (length (values v)) c.in_ok-limit.field-0.limit (numbers c.read_back-changed.result.0) (omega arith) (omega arith) found.1.0.limit best;
          its_changed = c.read_back-changed.ensures.changed;
          opened = found.1.0.opened;
          waiting = found.1.0.waiting;
          corrects = corrects (words t) (values v) c.args.count (numbers c.read_back-changed.result.0) best;
        },
        record { searched = found.1.1; estimated = c.fill_ahead.ensures.ahead },
      ),
    )
