use Rattle.std.proofs.Common.{refl}
use Rattle.wordfile.proofs.Read.{refused, accepted, masked_word, masked_weigh, masked_bit, masked_load}
use Rattle.wordfile.proofs.EntryTryFromU32.try_from.Goals as goal

pub returns-then-word-zero_bits-ne0 : goal.returns-then-word-zero_bits-ne0
returns-then-word-zero_bits-ne0 c =
    refused c.args.word _ _ c.from-kind.ensures c.zero_bits.ensures.mask c.if-word-zero_bits-ne0.true

pub returns-in-End : goal.returns-in-End
returns-in-End c =
    accepted c.args.word _ _ c.from-kind.ensures c.zero_bits.ensures.mask _ c.if-word-zero_bits-ne0.false c.in-End.is _ refl

pub returns-in-Word : goal.returns-in-Word
returns-in-Word c =
    accepted c.args.word _ _ c.from-kind.ensures c.zero_bits.ensures.mask _ c.if-word-zero_bits-ne0.false c.in-Word.is _ (masked_word _)

pub returns-in-Weigh : goal.returns-in-Weigh
returns-in-Weigh c =
    accepted c.args.word _ _ c.from-kind.ensures c.zero_bits.ensures.mask _ c.if-word-zero_bits-ne0.false c.in-Weigh.is _ (masked_weigh _)

pub returns-in-Drop : goal.returns-in-Drop
returns-in-Drop c =
    accepted c.args.word _ _ c.from-kind.ensures c.zero_bits.ensures.mask _ c.if-word-zero_bits-ne0.false c.in-Drop.is _ refl

pub returns-in-Bit : goal.returns-in-Bit
returns-in-Bit c =
    accepted c.args.word _ _ c.from-kind.ensures c.zero_bits.ensures.mask _ c.if-word-zero_bits-ne0.false c.in-Bit.is _ (masked_bit _ _ c.cast_signed.ensures)

pub returns-in-Wipe : goal.returns-in-Wipe
returns-in-Wipe c =
    accepted c.args.word _ _ c.from-kind.ensures c.zero_bits.ensures.mask _ c.if-word-zero_bits-ne0.false c.in-Wipe.is _ refl

pub returns-in-Load : goal.returns-in-Load
returns-in-Load c =
    accepted c.args.word _ _ c.from-kind.ensures c.zero_bits.ensures.mask _ c.if-word-zero_bits-ne0.false c.in-Load.is _ (masked_load _)

pub returns-in-Undo : goal.returns-in-Undo
returns-in-Undo c =
    accepted c.args.word _ _ c.from-kind.ensures c.zero_bits.ensures.mask _ c.if-word-zero_bits-ne0.false c.in-Undo.is _ refl
