use Rattle.std.proofs.Common.{arith, ap, ◌∙◌, ◌≡◌, ℕ, List, slice_get}
use Rattle.std.proofs.lemmas.Grind.{common_steps}
use Rattle.std.proofs.lemmas.Option.{gets}
use Rattle.searchcheck.proofs.Edges.{slice_get-nth}
use Rattle.searchcheck.proofs.maps.TableMapMap.edge.Goals as goal

pub returns : goal.returns
returns c =
    let read : c.copied.result ≡ slice_get c.row.result.now c.args.index = grind (arith, common_steps, gets) in
    record { edge = read ∙ ap (λ (es : List (ℕ × ℕ)). slice_get es c.args.index) c.row.ensures.edges ∙ slice_get-nth _ c.args.index }
