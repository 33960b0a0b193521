use Rattle.std.proofs.Common.{arith}
use Rattle.std.proofs.lemmas.Bool.{lt-leb}
use Rattle.codetable.specs.Codewords.{bits}
use Rattle.codetable.proofs.Bits.{length-bits, below_pow, shift_prefix, prefix_shift, prefix_short}
use Rattle.codetable.proofs.Told.{eqb_tells}
use Rattle.codetable.proofs.word.begins.Goals as goal

pub returns-then-a-b : goal.returns-then-a-b
returns-then-a-b c =
    let a = c.args.a in
    let b = c.args.b in
    let fits_a = below_pow a.len a.value c.requires.first.2 in
    let fits_b = below_pow b.len b.value c.requires.second.2 in
    record {
      tells = eqb_tells _ _ _ (shift_prefix a.len b.len a.value b.value c.if-a-b.true fits_a fits_b) (prefix_shift a.len b.len a.value b.value c.if-a-b.true fits_a fits_b);
    }

pub returns-else-a-b : goal.returns-else-a-b
returns-else-a-b c =
    record {
      tells = rw (lt-leb _ _ c.if-a-b.false) (λ p. omega (arith, prefix_short (bits c.args.a) (bits c.args.b) p, length-bits c.args.a.len c.args.a.value, length-bits c.args.b.len c.args.b.value));
    }
