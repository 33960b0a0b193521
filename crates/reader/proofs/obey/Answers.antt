use Rattle.std.proofs.Common.{refl, w8, SFits, rules}
use Rattle.std.proofs.lemmas.Int.{to_z-of_z}
use Rattle.reader.proofs.Answered.{plain_of}
use Rattle.reader.proofs.obey.Goals as goal

pub returns-in-Word : goal.returns-in-Word
returns-in-Word g c =
    record { obeys = rw c.in-Word.is ((refl, refl, refl), plain_of c.plain.result c.enter_word.result _ c.plain.ensures.outcome (rw c.from.ensures at c.enter_word.ensures.works)) }

pub returns-in-Weigh : goal.returns-in-Weigh
returns-in-Weigh g c =
    record { obeys = rw c.in-Weigh.is ((refl, refl, refl), plain_of c.plain-in-Weigh.result c.set_weight.result _ c.plain-in-Weigh.ensures.outcome (rw c.from-in-Weigh.ensures at c.set_weight.ensures.works)) }

pub returns-in-Drop : goal.returns-in-Drop
returns-in-Drop g c =
    record { obeys = rw c.in-Drop.is ((refl, refl, refl), plain_of c.plain-in-Drop.result c.drop_word.result _ c.plain-in-Drop.ensures.outcome c.drop_word.ensures.works) }

pub returns-in-Bit : goal.returns-in-Bit
returns-in-Bit g c =
    let fits : SFits w8 c.in-Bit.value = search rules in
    record { obeys = rw c.in-Bit.is ((refl, refl, refl), plain_of c.plain-in-Bit.result c.add_value.result _ c.plain-in-Bit.ensures.outcome (rw (to_z-of_z w8 c.in-Bit.value fits) at c.add_value.ensures.works)) }

pub returns-in-Undo : goal.returns-in-Undo
returns-in-Undo g c =
    record { obeys = rw c.in-Undo.is ((refl, refl, refl), plain_of c.plain-in-Undo.result c.undo.result _ c.plain-in-Undo.ensures.outcome c.undo.ensures.works) }
