use Rattle.std.proofs.Common.{ℕ, ◌+◌, ◌-◌, min, cond, false, not, List, get_or, refl, rules, arith}
use mathlib.Core.Bool.{beq}
use Rattle.std.specs.List.{range_with_len}
use Rattle.std.proofs.lemmas.Iterator.{YieldsList-from_range, YieldsList-from_map}
use Rattle.std.proofs.lemmas.Iterator.Consumers.{YieldsList-at, sum_by_from_yields_List, fits_by_from_yields_list}
use Rattle.std.proofs.lemmas.List.FromFn.{length-range_with_len}
use Rattle.std.proofs.lemmas.List.Sums.{count_by-le-length}
use Rattle.codetable.specs.declared.word.Codeword.{Codeword}
use Rattle.codetable.specs.Codewords.{bits}
use Rattle.distance.specs.declared.tails.Tail.{Tail}
use Rattle.distance.proofs.tails.Tail.differing_bits.Goals as goal

-- one where bit i of a tail and of a word differ
abbrev differs : Tail → Codeword → ℕ → ℕ
differs t b i = cond (not (beq (get_or (bits t.word) (t.cut + i) false) (get_or (bits b) i false))) 1 0

pub sum-requires-clause-fits : goal.sum-requires-clause-fits
sum-requires-clause-fits c =
    let t = c.args.self.now in
    let b = c.args.word in
    let n = min (t.word.len - t.cut) b.len in
    let few = count_by-le-length (λ i. not (beq (get_or (bits t.word) (t.cut + i) false) (get_or (bits b) i false))) (range_with_len 0 n) in
    let long = length-range_with_len 0 n in
    fits_by_from_yields_list (differs t b) (range_with_len 0 n) c.map.result _
    (YieldsList-from_map _ (differs t b) (YieldsList-at c.map.ensures.source (YieldsList-from_range 0 c.min-shorter.result n refl (omega arith))) c.map.ensures.closure (λ x r q k. search rules))
    (omega arith)

pub returns : goal.returns
returns c =
    let t = c.args.self.now in
    let b = c.args.word in
    let n = min (t.word.len - t.cut) b.len in
    record {
      count = sum_by_from_yields_List (differs t b) (range_with_len 0 n) c.map.result c.sum.result c.sum.ensures.ran (YieldsList-from_map _ (differs t b) (YieldsList-at c.map.ensures.source (YieldsList-from_range 0 c.min-shorter.result n refl (omega arith))) c.map.ensures.closure (λ x r q k. search rules));
    }
