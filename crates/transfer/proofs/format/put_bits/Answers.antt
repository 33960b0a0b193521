use Rattle.std.proofs.Common.{◌≡◌, ℕ, ◌+◌, ◌<◌, Bool, false, List, [], ◌∷◌, ◌++◌, map, length, get_or, take, sym, ap, ◌∙◌, arith}
use Rattle.std.proofs.lemmas.List.{take_more, take_all, length-map, length-take-le, map_push}
use Rattle.codetable.specs.Codewords.{bits}
use Rattle.codetable.proofs.Bits.{length-bits}
use Rattle.transfer.specs.Format.{bit_word}
use Rattle.transfer.specs.Transfers.{written}
use Rattle.transfer.proofs.Written.{written_more}
use Rattle.transfer.proofs.format.put_bits.Goals as goal

pub loop-i-preserved : goal.loop-i-preserved
loop-i-preserved c =
    let w = c.args.word in
    let i = c.loop-i.i in
    let b = c.args.buffer.now in
    let at = c.args.at in
    let before = map bit_word (take i (bits w)) in
    let len = length-bits w.len w.value in
    let inside : i < length (bits w) = omega arith in
    let long : length before ≡ i = length-map (take i (bits w)) bit_word ∙ length-take-le i (bits w) (omega arith) in
    let word : c.bit_word.result ≡ bit_word (get_or (bits w) i false) = c.bit_word.ensures.value ∙ ap bit_word c.bit.ensures.value in
    c.put_word.ensures.written
    ∙ ap (λ (l : List ℕ). written l (at + i) (c.bit_word.result ∷ [])) c.loop-i.invariant
    ∙ ap (λ (n : ℕ). written (written b at before) (at + n) (c.bit_word.result ∷ [])) (sym long)
    ∙ written_more b at before (omega arith) (c.bit_word.result ∷ [])
    ∙ ap (λ (x : ℕ). written b at (before ++ x ∷ [])) word
    ∙ ap (written b at) (sym (map_push bit_word (take i (bits w)) (get_or (bits w) i false)) ∙ ap (map bit_word) (sym (take_more (bits w) i false inside)))

pub returns : goal.returns
returns c =
    let w = c.args.word in
    record {
      written = c.loop-i.invariant ∙ ap (λ (l : List Bool). written c.args.buffer.now c.args.at (map bit_word l)) (take_all c.loop-i.i (bits w) (omega (arith, length-bits w.len w.value)));
    }
