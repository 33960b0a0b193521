use Rattle.std.proofs.Common.{◌∙◌, rules, tests}
use Rattle.std.proofs.lemmas.Iterator.{YieldsList-from_slice}
use Rattle.std.proofs.lemmas.Iterator.Consumers.{YieldsList-from_filter, nth_from_yields_List}
use Rattle.decoder.specs.Receptions.{code, observed}
use Rattle.decoder.specs.Trellis.{fits_behind}
use Rattle.decoder.proofs.trellis.Trellis.fitting_word.Goals as goal

pub returns : goal.returns
returns c =
    let r = c.args.self.now.reception in
    let nth = nth_from_yields_List c.nth.result _ c.args.index c.nth.ensures.ran (YieldsList-from_filter _ (fits_behind (observed r) c.args.bits) (YieldsList-from_slice (code r) cc) c.filter.ensures.closure (λ x b q k. search (rules, tests))) in
    record { word = c.copied.ensures ∙ nth }
