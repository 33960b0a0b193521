use Rattle.std.proofs.Common.{◌≡◌, ℕ, ◌+◌, Some, sym, ap, ◌∙◌, arith}
use Rattle.std.specs.Option.{option_map}
use Rattle.decoder.specs.Laws.{few_values_of}
use Rattle.decoder.specs.Receptions.{code, observed}
use Rattle.decoder.specs.Trellis.{trellis_place}
use Rattle.decoder.proofs.Rows.{edge_of, fitting_fits, nth_row}
use Rattle.decoder.proofs.trellis.Trellis.step.Goals as goal

pub returns-in_err-word : goal.returns-in_err-word
returns-in_err-word c =
    let r = c.args.self.now.reception in
    let i = c.args.stage in
    let j = c.args.bits in
    record {
      edge = c.from_residual.ensures ∙ sym (nth_row (observed r) i j (code r) c.args.index ∙ ap (option_map (edge_of (observed r) i j)) (sym c.in_err-word.ensures.word));
    }

pub place_of-requires-clause-bits : goal.place_of-requires-clause-bits
place_of-requires-clause-bits c =
    let r = c.args.self.now.reception in
    let fits = fitting_fits (observed r) c.args.stage c.args.bits (code r) c.args.index c.in_ok-word.word (sym c.in_ok-word.ensures.word) in
    let few = few_values_of r.received.now in
    omega (arith, c.from.ensures)

pub returns : goal.returns
returns c =
    let r = c.args.self.now.reception in
    let i = c.args.stage in
    let j = c.args.bits in
    let w = c.in_ok-word.word in
    let place : c.place_of.result ≡ trellis_place (i + 1) (j + w.len) = c.place_of.ensures.place ∙ ap (λ (n : ℕ). trellis_place (i + 1) (j + n)) c.from.ensures in
    let cost = c.share.ensures.share in
    let same : ◌≡◌ {A = ℕ × ℕ} (c.place_of.result, c.share.result) (edge_of (observed r) i j w) = cc in
    record {
      edge = ap Some same ∙ sym (nth_row (observed r) i j (code r) c.args.index ∙ ap (option_map (edge_of (observed r) i j)) (sym c.in_ok-word.ensures.word));
    }
