use Rattle.std.specs.List.{slice_get}
use Rattle.std.proofs.Common.{◌+◌, List, get_or, sym, ap, ◌∙◌, zero-le, arith}
use Rattle.std.proofs.lemmas.Option.{slice_get-get_or}
use Rattle.codetable.specs.declared.word.Codeword.{Codeword}
use Rattle.search.specs.Graphs.{nth as edge_nth}
use Rattle.distance.specs.Tails.{against}
use Rattle.distance.proofs.Indexed.{stored_at, pair_here, pair_behind, pair_none}
use Rattle.distance.proofs.tails.Tails.pair.Goals as goal

-- what a read past the end would answer
abbrev blank : Codeword
blank = record { len = 0; value = 0; weight = 0 }

pub invariant_of-against : goal.invariant_of-against
invariant_of-against c =
    let ws = c.as_slice-words.result.now in
    let there = slice_get-get_or ws c.loop-number.number blank c.loop-number-test.true in
    let stored = stored_at c.args.self.now.table (sym there ∙ ap (λ (l : List Codeword). slice_get l c.loop-number.number) c.as_slice-words.ensures.words) in
    record { numbered = omega arith; short = stored.1.1; within = zero-le }

pub returns-then-left-behind : goal.returns-then-left-behind
returns-then-left-behind c =
    let ws = c.as_slice-words.result.now in
    let number = c.loop-number.number in
    let left = c.loop-number.left in
    let there = slice_get-get_or ws number blank c.loop-number-test.true in
    record {
      edge = c.against.ensures.edge ∙ ap (λ (l : List Codeword). edge_nth (against number (get_or ws number blank) 0 0 l) (number + 1 + left)) (sym c.as_slice-words.ensures.words) ∙ sym (c.loop-number.invariant ∙ pair_here ws number c.loop-number-test.true (get_or ws number blank) there left c.if-left-behind.true);
    }

pub loop-number-preserved : goal.loop-number-preserved
loop-number-preserved c =
    let ws = c.as_slice-words.result.now in
    let number = c.loop-number.number in
    let there = slice_get-get_or ws number blank c.loop-number-test.true in
    c.loop-number.invariant ∙ pair_behind ws number c.loop-number-test.true (get_or ws number blank) there c.loop-number.left c.if-left-behind.false

pub returns : goal.returns
returns c =
    record { edge = sym (c.loop-number.invariant ∙ pair_none c.as_slice-words.result.now c.loop-number.number c.loop-number.left c.loop-number-test.false) }
