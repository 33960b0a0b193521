use Rattle.std.proofs.Common.{ℕ, ◌-◌, ◌/◌, ◌%◌, ◌^◌, ◌<◌, ◌≤◌, false, eqb, sym, ap, ◌∙◌, arith}
use Rattle.std.proofs.lemmas.List.{get_or_past}
use Rattle.std.proofs.lemmas.Bool.{le-ltb}
use Rattle.codetable.specs.Codewords.{bits}
use Rattle.codetable.proofs.Bits.{length-bits, bit_at, bit_high}
use Rattle.codetable.proofs.word.Codeword.bit.Goals as goal

pub returns-then-i-len : goal.returns-then-i-len
returns-then-i-len c =
    let w = c.args.self.now in
    record { value = sym (get_or_past (bits w) c.args.i false (omega (arith, length-bits w.len w.value))) }

pub returns-then-behind-lt32 : goal.returns-then-behind-lt32
returns-then-behind-lt32 c =
    let w = c.args.self.now in
    record {
      value = ap (λ (n : ℕ). eqb (w.value / 2 ^ (n - 1 - c.args.i) % 2) 1) c.from-len.ensures ∙ sym (bit_at w.len w.value c.args.i (omega arith));
    }

pub returns-else-behind-lt32 : goal.returns-else-behind-lt32
returns-else-behind-lt32 c =
    let w = c.args.self.now in
    let fits : w.value < 2 ^ 32 = omega arith in
    let far : 32 ≤ w.len - 1 - c.args.i = omega arith in
    record {
      value = le-ltb _ 32 c.if-behind-lt32.false ∙ sym (bit_at w.len w.value c.args.i (omega arith) ∙ bit_high 32 w.value (w.len - 1 - c.args.i) fits far);
    }
