use Rattle.std.proofs.Common.{◌≡◌, ℕ, ◌+◌, ◌-◌, min, Bool, false, not, List, get_or, drop, sym, ap, ◌∙◌, arith, length-drop}
use mathlib.Core.Bool.{beq}
use Rattle.std.specs.List.{range_with_len}
use Rattle.std.proofs.lemmas.List.{get_or-drop}
use Rattle.std.proofs.lemmas.List.FromFn.{length-range_with_len}
use Rattle.std.proofs.lemmas.List.Sums.{count_by-le-length}
use Rattle.codetable.specs.declared.word.Codeword.{Codeword}
use Rattle.codetable.specs.Codewords.{bits}
use Rattle.codetable.proofs.Bits.{length-bits}
use Rattle.distance.specs.declared.tails.Tail.{Tail}
use Rattle.distance.proofs.Rows.{hamming_counts}
use Rattle.distance.proofs.tails.Tail.distance.Goals as goal

-- whether bit i of a tail and of a word differ
abbrev differs : Tail → Codeword → ℕ → Bool
differs t b i = not (beq (get_or (bits t.word) (t.cut + i) false) (get_or (bits b) i false))

-- the places at which both have a bit
abbrev places : Tail → Codeword → List ℕ
places t b = range_with_len 0 (min (t.word.len - t.cut) b.len)

pub overflow_cast-result : goal.overflow_cast-result
overflow_cast-result c =
    let t = c.args.self.now in
    let b = c.args.word in
    let few = count_by-le-length (differs t b) (places t b) in
    let long = length-range_with_len 0 (min (t.word.len - t.cut) b.len) in
    omega (arith, c.differing_bits.ensures.count)

pub returns : goal.returns
returns c =
    let t = c.args.self.now in
    let b = c.args.word in
    let long_a = length-bits t.word.len t.word.value in
    let long_b = length-bits b.len b.value in
    let long_x = length-drop t.cut (bits t.word) in
    record {
      distance = c.differing_bits.ensures.count ∙ hamming_counts (differs t b) 0 (min (t.word.len - t.cut) b.len) (drop t.cut (bits t.word)) (bits b) (omega arith) (λ i. let e : 0 + i ≡ i = omega arith in ap (differs t b) e ∙ ap (λ (v : Bool). not (beq v (get_or (bits b) i false))) (sym (get_or-drop t.cut (bits t.word) i false)));
    }
