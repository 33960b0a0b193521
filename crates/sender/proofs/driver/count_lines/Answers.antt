use Rattle.std.proofs.Common.{length, ap, inl, arith}
use Rattle.std.proofs.lemmas.List.Splits.{length-slice_split}
use Rattle.std.proofs.lemmas.List.Sums.{count_by-le-length}
use Rattle.script.specs.Script.{newline}
use Rattle.sender.proofs.driver.count_lines.Goals as goal

-- a text has at most one line more than bytes
pub count-requires-clause-fits : goal.count-requires-clause-fits
count-requires-clause-fits c =
    let text = c.args.text.now in
    inl (omega (arith, ap length c.new.ensures.left, length-slice_split newline text, count_by-le-length newline text))
