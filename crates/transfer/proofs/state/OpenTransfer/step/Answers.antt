use Rattle.std.proofs.Common.{◌≡◌, ℕ, ◌+◌, Bool, List, map, length, sym, refl, ap, ◌∙◌, inl, inr, ⊎_elim, arith}
use Rattle.std.proofs.lemmas.Option.{slice_get_within}
use Rattle.codetable.specs.Sequences.{bits_at}
use Rattle.codetable.specs.Tables.{words}
use Rattle.codetable.proofs.Sequences.{bits_there, length_there}
use Rattle.transfer.specs.Format.{bit_word}
use Rattle.transfer.specs.Transfers.{written}
use Rattle.transfer.specs.Calls.{Stepped}
use Rattle.transfer.proofs.Carried.{stepped_carries}
use Rattle.transfer.proofs.state.OpenTransfer.step.Goals as goal

pub returns-then-self-ge-MOST_STEPS-clause-answer : goal.returns-then-self-ge-MOST_STEPS-clause-answer
returns-then-self-ge-MOST_STEPS-clause-answer c =
    let ws = words c.args.table.now in
    let there = sym c.in-Some.ensures.found in
    let within = slice_get_within ws c.args.k c.in-Some.word there in
    let long = length_there ws c.args.k c.in-Some.word there in (
      inr (
        λ h. omega arith,
        inl (⊎_elim (λ h. inl h) (λ h. inr (omega (arith, h.1, c.from.ensures))) c.then-self-ge-MOST_STEPS.either, refl),
      ),
      (refl, refl),
    )

pub returns-then-buffer-bits-clause-answer : goal.returns-then-buffer-bits-clause-answer
returns-then-buffer-bits-clause-answer c =
    let ws = words c.args.table.now in
    let there = sym c.in-Some.ensures.found in
    let within = slice_get_within ws c.args.k c.in-Some.word there in
    let long = length_there ws c.args.k c.in-Some.word there in (
      inr (
        λ h. omega arith,
        inr (⊎_elim (λ h. omega arith) (λ h. omega arith), inl (omega arith, refl)),
      ),
      (refl, refl),
    )

pub returns : goal.returns
returns c =
    let ws = words c.args.table.now in
    let k = c.args.k in
    let w = c.in-Some.word in
    let there = sym c.in-Some.ensures.found in
    let within = slice_get_within ws k w there in
    let long = length_there ws k w there in
    let done : Stepped ws k c.args.self _ c.args.buffer.now c.put_bits.new.buffer =
    record {
      steps = refl;
      bits = ap (λ (n : ℕ). c.args.self.bits + n) (c.from.ensures ∙ sym long);
      buffer = c.put_bits.ensures.written ∙ ap (λ (l : List Bool). written c.args.buffer.now c.args.self.bits (map bit_word l)) (sym (bits_there ws k w there));
    } in
    record {
      answer = (
        (λ h. omega arith, (⊎_elim (λ h. omega arith) (λ h. omega arith), (λ h. omega arith, tt))),
        done,
      );
      carries = λ before sent v h e.
          let same : length (bits_at ws k) ≡ v.len = length_there ws k v e in
          stepped_carries c.args.self before c.args.buffer.now c.put_bits.new.buffer sent h ws k v _ e (omega arith) done;
    }
