use Rattle.std.proofs.Common.{List, take, sym, subst}
use Rattle.codetable.specs.declared.word.Codeword.{Codeword}
use Rattle.codetable.specs.Codewords.{AllFormed, AllWeighed, Clash}
use Rattle.codetable.specs.Tables.{words}
use Rattle.codetable.proofs.Kept.{take_traced, take_weighed, traced_formed, traced_apart}
use Rattle.codetable.proofs.table.CodeTable.pop.Goals as goal

pub invariant_of-self : goal.invariant_of-self
invariant_of-self c =
    let t = c.args.self.now in
    let ws = words t in
    let n = c.in_ok-last.last in
    let after = sym c.truncate.ensures.items in
    record {
      formed = subst AllFormed after (traced_formed (take n ws) ws (take_traced n ws) t.formed);
      prefixfree = subst (λ (l : List Codeword). Clash l → ⊥) after (traced_apart (take n ws) ws (take_traced n ws) t.prefixfree);
      weighed = subst AllWeighed after (take_weighed n ws t.weighed);
    }
