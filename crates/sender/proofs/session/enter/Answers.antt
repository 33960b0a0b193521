use Rattle.std.proofs.Common.{ℕ, List, [], ◌∷◌, ◌++◌, Option, sym, refl, ap, ◌∙◌}
use Rattle.std.proofs.lemmas.Result.{err_from_is_err_and}
use Rattle.codetable.specs.declared.word.Codeword.{Codeword}
use Rattle.codetable.specs.Codewords.{reweighed}
use Rattle.codetable.specs.Tables.{words, entered}
use Rattle.sender.specs.Effects.{weighed}
use Rattle.sender.proofs.Followed.{reweighed_last}
use Rattle.sender.proofs.session.enter.Goals as goal

pub returns-in_err-push : goal.returns-in_err-push
returns-in_err-push c =
    let p = err_from_is_err_and c.from_residual.result c.from_residual.ensures.1 in
    let told = c.in_err-push.ensures.answer in
    rw (p.1, p.2) (record { answer = (told.0, (refl, ap words told.1)) })

pub returns-in_ok-set_weight : goal.returns-in_ok-set_weight
returns-in_ok-set_weight c =
    let ws = words c.args.table.now in
    let w = entered c.args.len c.args.value in
    record {
      answer = (
        c.in_ok-push.ensures.answer.0,
        c.in_ok-set_weight.ensures.answer.1
            ∙ ap (λ (l : List Codeword). reweighed l c.len-k.result c.in-Some.weight) c.in_ok-push.ensures.answer.1
            ∙ ap (λ (k : ℕ). reweighed (ws ++ w ∷ []) k c.in-Some.weight) c.len-k.ensures.count
            ∙ reweighed_last ws w c.in-Some.weight
            ∙ ap (λ (x : Option ℕ). ws ++ weighed c.args.len c.args.value x ∷ []) (sym c.in-Some.is),
      );
    }
