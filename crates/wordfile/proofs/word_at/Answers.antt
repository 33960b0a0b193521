use Rattle.std.proofs.Common.{◌≡◌, arith, ◌∙◌}
use Rattle.std.specs.List.{slice_get}
use Rattle.std.proofs.lemmas.Grind.{common_steps}
use Rattle.std.proofs.lemmas.Option.{gets}
use Rattle.wordfile.specs.Words.{words}
use Rattle.wordfile.proofs.Listed.{listed_of_chunks, word_listed}
use Rattle.wordfile.proofs.word_at.Goals as goal

pub returns : goal.returns
returns c =
    let bs = c.args.bytes.now in
    let k = c.args.place in
    let of_chunks = listed_of_chunks bs k in
    let listed : c.map.result ≡ slice_get (words bs) k = grind (arith, common_steps, gets, of_chunks) in
    record { found = listed ∙ word_listed bs k; listed = listed }
