use Rattle.std.proofs.Common.{◌≡◌, [], ◌∷◌, ◌++◌, List, sym, subst, arith}
use Rattle.fixedvec.specs.Items.{items}
use Rattle.codetable.specs.declared.word.Codeword.{Codeword}
use Rattle.codetable.specs.Codewords.{AllFormed, AllWeighed, Clash}
use Rattle.codetable.specs.Tables.{words, entered}
use Rattle.codetable.proofs.Kept.{pushed_formed, pushed_weighed, pushed_apart}
use Rattle.codetable.proofs.Told.{on_ok}
use Rattle.codetable.proofs.table.CodeTable.push.Goals as goal

pub invariant_of-self : goal.invariant_of-self
invariant_of-self c =
    let t = c.args.self.now in
    let ws = words t in
    let w = entered c.args.len c.args.value in
    let after : ws ++ w ∷ [] ≡ items c.push.new.self = sym (on_ok c.push.result _ (c.push.ensures.answer.1 (omega (arith, c.if-len-ge-MOST_WORDS.false))) c.push.ensures.items) in
    record {
      formed = subst AllFormed after (pushed_formed ws w t.formed (omega arith, omega arith, omega (arith, c.largest_value.ensures.value)));
      prefixfree = subst (λ (l : List Codeword). Clash l → ⊥) after (pushed_apart ws w t.prefixfree c.if-clashes.ensures.tells);
      weighed = subst AllWeighed after (pushed_weighed ws w t.weighed (omega arith));
    }
