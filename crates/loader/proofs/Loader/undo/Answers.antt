use Rattle.std.proofs.Common.{◌≡◌, Some, None, sym, ap, ◌∙◌}
use Rattle.std.specs.Option.{option_map}
use Rattle.decoder.specs.Lists.{numbers}
use Rattle.loader.proofs.Loader.undo.Goals as goal

pub returns : goal.returns
returns c =
    let list = c.in_ok-earlier.earlier in
    let found : c.args.self.now.earlier ≡ Some list = sym c.take.ensures.value ∙ c.in_ok-earlier.ensures.ok_part in
    let listed : option_map numbers c.args.self.now.earlier ≡ Some (numbers list) = ap (option_map numbers) found in
    let stored : numbers c.store.new.self.current ≡ numbers list = ap numbers c.store.ensures.value in
    let none : option_map numbers c.take.new.self ≡ None = ap (option_map numbers) c.take.ensures.after in
    record { works = ((λ due. cc, tt), (numbers list, listed, cc)) }
