use Rattle.std.proofs.Common.{length, refl, ap, ◌∙◌}
use Rattle.std.specs.Option.{unwrap_or}
use Rattle.std.proofs.lemmas.Fn.{called_at}
use Rattle.std.proofs.lemmas.Iterator.{YieldsList-from_slice}
use Rattle.std.proofs.lemmas.Iterator.Search.{position_from_yields_List}
use Rattle.script.proofs.Parts.{position_unwraps}
use Rattle.script.proofs.len_before.Goals as goal

pub returns-clause-first : goal.returns-clause-first
returns-clause-first g c = λ passes tests.
    let bytes = c.args.bytes.now in
    let found = position_from_yields_List passes _ _ c.position.result c.position.ensures.ran (YieldsList-from_slice bytes cc) (λ x b q k. tests x.now b q (called_at g.F.FnMut k refl)) in
    c.unwrap_or.ensures ∙ ap (λ o. unwrap_or o (length bytes)) found ∙ position_unwraps passes bytes
