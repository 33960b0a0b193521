use Rattle.std.proofs.Common.{◌∷◌, get_or, take}
use Rattle.std.specs.Fmt.{HasWritten, IsPlainFormatter}
use Rattle.decoder.specs.Lists.{numbers, dotted}
use Rattle.decoder.proofs.list.calls.WordListDisplay.fmt.Given as goal

-- the numbers so far are written
abbrev pub invariant-loop-number : goal.invariant-loop-number
invariant-loop-number g l =
    IsPlainFormatter l.fn.f → HasWritten g.W.Write.write_str_gives l.fn.f (dotted (get_or (numbers l.self) 0 0 ∷ take l.number-index l.rest)) l.f
