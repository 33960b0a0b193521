use Rattle.std.proofs.Common.{◌≡◌, get_or, sym, ◌∙◌, arith}
use Rattle.std.specs.Char.{digit_value}
use Rattle.std.proofs.lemmas.List.Folds.{list_all_more}
use Rattle.std.proofs.lemmas.Bool.{and_from}
use Rattle.std.proofs.lemmas.Bool.Decides.{nat_tests}
use Rattle.std.proofs.lemmas.Int.Digits.{digits_value_more}
use Rattle.script.specs.Script.{bit}
use Rattle.script.proofs.parse_bits.Goals as goal

pub loop-byte-preserved : goal.loop-byte-preserved
loop-byte-preserved c =
    let ds = c.args.field.now in
    let i = c.loop-byte.byte-index in
    let lt = c.loop-byte-test.true in
    let digit : digit_value (get_or ds i 0) ≡ c.from.result = grind (arith, nat_tests) in (
      list_all_more bit ds i 0 lt ∙ and_from _ _ c.loop-byte.invariant.0 (sym c.if-not-is_bit.ensures.value),
      omega (arith, c.loop-byte.invariant.1, digit, digits_value_more 2 ds i lt),
    )
