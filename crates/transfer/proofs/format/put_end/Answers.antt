use Rattle.std.proofs.Common.{ℕ, ◌+◌, List, [], ◌∷◌, ap, ◌∙◌, arith}
use Rattle.transfer.specs.Format.{load_word, end_word}
use Rattle.transfer.specs.Transfers.{written}
use Rattle.transfer.proofs.Written.{written_more}
use Rattle.transfer.proofs.format.put_end.Goals as goal

pub returns : goal.returns
returns c =
    let b = c.args.buffer.now in
    let at = c.args.at in
    record {
      written = c.put_word-2.ensures.written
          ∙ ap (λ (l : List ℕ). written l (at + 1) (end_word ∷ [])) c.put_word.ensures.written
          ∙ written_more b at (load_word c.args.steps ∷ []) (omega arith) (end_word ∷ []);
    }
