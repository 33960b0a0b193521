use Rattle.std.proofs.Common.{arith}
use Rattle.codetable.proofs.Bits.{formed_below}
use Rattle.sender.proofs.image.word_word.Goals as goal

pub overflow_add-result-2 : goal.overflow_add-result-2
overflow_add-result-2 c = let h = formed_below c.args.word c.requires.formed in record { fits = omega (arith, c.requires.formed.1) }
