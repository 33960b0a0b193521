use Rattle.std.proofs.Common.{rules}
use Rattle.reader.proofs.Answered.{said_of, placed}
use Rattle.reader.proofs.follow_word.Goals as goal

pub returns : goal.returns
returns g c =
    let says = said_of c.args.word c.in_ok-entry.entry c.try_from.result c.map_err.result _ c.try_from.ensures c.in_ok-entry.was c.map_err.ensures.cases in
    record { follows = placed c.args.place c.args.word _ _ _ c.in_ok-entry.entry c.obey.result c.map_err-2.result _ (λ f p q. search rules) says c.obey.ensures.obeys c.map_err-2.ensures.cases }
