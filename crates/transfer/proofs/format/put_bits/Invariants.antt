use Rattle.std.proofs.Common.{◌≡◌, map, take}
use Rattle.codetable.specs.Codewords.{bits}
use Rattle.transfer.specs.Format.{bit_word}
use Rattle.transfer.specs.Transfers.{written}
use Rattle.transfer.proofs.format.put_bits.Given as goal

-- the bits so far are written
abbrev pub invariant-loop-i : goal.invariant-loop-i
invariant-loop-i l = l.buffer ≡ written l.initial.buffer l.at (map bit_word (take l.i (bits l.word)))
