-- What a transfer carries after each call, for every list of words sent before.
use Rattle.std.proofs.Common.{◌≡◌, ℕ, ◌+◌, ◌*◌, ◌≤◌, Bool, List, [], ◌∷◌, ◌++◌, map, length, Some, sym, ap, ◌∙◌, zero-add, arith, length-append}
use Rattle.std.specs.List.{slice_get}
use Rattle.std.proofs.lemmas.List.{flat_map_more, length_push, length-map, map-append}
use Rattle.codetable.specs.declared.word.Codeword.{Codeword}
use Rattle.codetable.specs.Codewords.{bits}
use Rattle.codetable.specs.Sequences.{bits_at}
use Rattle.codetable.proofs.Sequences.{bits_there, length_there}
use Rattle.transfer.specs.declared.state.OpenTransfer.{OpenTransfer}
use Rattle.transfer.specs.declared.state.ClosedTransfer.{ClosedTransfer}
use Rattle.transfer.specs.Format.{bit_word, load_word, end_word}
use Rattle.transfer.specs.Transfers.{closing, sent_bits, written}
use Rattle.transfer.specs.Calls.{Stepped, Finished, Carries, Delivers}
use Rattle.transfer.proofs.Written.{length-written, written_more}

sent_more : (sent : List Codeword) (w : Codeword) → sent_bits (sent ++ w ∷ []) ≡ sent_bits sent ++ bits w
sent_more sent w = sym (flat_map_more bits [] sent w)

module _ (o : OpenTransfer) (before b after : List ℕ) (sent : List Codeword) (carried : Carries o before b sent) where
  -- the BIT words so far
  abbrev words : List ℕ
  words = map bit_word (sent_bits sent)

  count : length words ≡ o.bits
  count = length-map (sent_bits sent) bit_word ∙ sym carried.bits

  fits : 4 * (0 + length words) ≤ length before
  fits = let h = count in omega (arith, carried.room)

  pub same_length : length b ≡ length before
  same_length = ap length carried.buffer ∙ length-written before 0 words fits

  -- file words that are written behind them
  behind : (vs : List ℕ) → after ≡ written b o.bits vs → after ≡ written before 0 (words ++ vs)
  behind vs e =
      e
      ∙ ap (λ (l : List ℕ). written l o.bits vs) carried.buffer
      ∙ ap (λ (n : ℕ). written (written before 0 words) n vs) (sym count ∙ sym (zero-add (length words)))
      ∙ written_more before 0 words fits vs

  pub stepped_carries : (ws : List Codeword) (k : ℕ) (w : Codeword) (p : OpenTransfer) → slice_get ws k ≡ Some w → 4 * (o.bits + w.len + closing) ≤ length b → Stepped ws k o p b after → Carries p before after (sent ++ w ∷ [])
  stepped_carries ws k w p e room s =
      let there = bits_there ws k w e in
      let long = length_there ws k w e in
      record {
        steps = s.steps ∙ ap (λ (n : ℕ). n + 1) carried.steps ∙ sym (length_push sent w);
        bits = s.bits ∙ ap (λ (n : ℕ). n + length (bits_at ws k)) carried.bits ∙ ap (λ (l : List Bool). length (sent_bits sent) + length l) there ∙ sym (length-append (sent_bits sent) (bits w)) ∙ ap length (sym (sent_more sent w));
        room = omega (arith, s.bits, same_length);
        closable = λ _. omega (arith, s.bits, same_length);
        buffer = behind (map bit_word (bits_at ws k)) s.buffer
            ∙ ap (λ (l : List Bool). written before 0 (words ++ map bit_word l)) there
            ∙ ap (written before 0) (sym (map-append bit_word (sent_bits sent) (bits w)))
            ∙ ap (λ (l : List Bool). written before 0 (map bit_word l)) (sym (sent_more sent w));
      }

  pub finished_delivers : (c : ClosedTransfer) → 4 * (o.bits + closing) ≤ length b → Finished o c b after → Delivers c before after sent
  finished_delivers c room f =
      record {
        steps = f.steps ∙ carried.steps;
        bits = f.bits ∙ carried.bits;
        words = ap (λ (n : ℕ). n + closing) (f.bits ∙ sym count) ∙ sym (length-append words (load_word (length sent) ∷ end_word ∷ []));
        room = omega (arith, f.bits, same_length);
        buffer = behind (load_word o.steps ∷ end_word ∷ []) f.buffer
            ∙ ap (λ (n : ℕ). written before 0 (words ++ load_word n ∷ end_word ∷ [])) carried.steps;
      }
