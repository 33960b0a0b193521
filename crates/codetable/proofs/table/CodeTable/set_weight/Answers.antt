use Rattle.std.proofs.Common.{List, sym, ap, ◌∙◌, subst, arith}
use Rattle.std.specs.Result.{result_ok}
use Rattle.std.proofs.lemmas.Option.{slice_get_within}
use Rattle.codetable.specs.declared.word.Codeword.{Codeword}
use Rattle.codetable.specs.Codewords.{AllFormed, AllWeighed, Clash, reweighed}
use Rattle.codetable.specs.Tables.{words}
use Rattle.codetable.proofs.Kept.{reweighed_traced, reweighed_weighed, traced_formed, traced_apart}
use Rattle.codetable.proofs.Stored.{set-reweighed}
use Rattle.codetable.proofs.table.CodeTable.set_weight.Goals as goal

pub invariant_of-self : goal.invariant_of-self
invariant_of-self c =
    let t = c.args.self.now in
    let ws = words t in
    let vs = reweighed ws c.args.k c.args.weight in
    let from = reweighed_traced ws c.args.k c.args.weight in
    let there = sym c.word.ensures.found ∙ c.ok_or.ensures.ok_part ∙ ap result_ok c.in_ok-word.was in
    let after = sym (c.replace.ensures.items ∙ set-reweighed ws c.args.k c.args.weight c.in_ok-word.word there) in
    record {
      formed = subst AllFormed after (traced_formed vs ws from t.formed);
      prefixfree = subst (λ (l : List Codeword). Clash l → ⊥) after (traced_apart vs ws from t.prefixfree);
      weighed = subst AllWeighed after (reweighed_weighed ws c.args.k c.args.weight (omega arith) t.weighed);
    }

pub returns : goal.returns
returns c =
    let ws = words c.args.self.now in
    let there = sym c.word.ensures.found ∙ c.ok_or.ensures.ok_part ∙ ap result_ok c.in_ok-word.was in
    let within = slice_get_within ws c.args.k c.in_ok-word.word there in
    record { answer = ((λ past. omega (arith, past, within), tt), c.replace.ensures.items ∙ set-reweighed ws c.args.k c.args.weight c.in_ok-word.word there) }
