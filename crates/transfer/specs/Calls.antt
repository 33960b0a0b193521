-- What each call on a transfer checks and does, and what it carries then.
use Rattle.std.specs.Prelude.{◌≡◌, ℕ, ◌+◌, ◌*◌, ◌<◌, ◌≤◌, ◌⊎◌, List, [], ◌∷◌, map, length, ◌≢◌}
use Rattle.refusal.specs.Refusals.{full, no_word, short}
use Rattle.refusal.specs.Checks.{Check}
use Rattle.codetable.specs.declared.word.Codeword.{Codeword}
use Rattle.codetable.specs.Sequences.{bits_at}
use Rattle.transfer.specs.declared.state.OpenTransfer.{OpenTransfer}
use Rattle.transfer.specs.declared.state.ClosedTransfer.{ClosedTransfer}
use Rattle.transfer.specs.Format.{bit_word, load_word, end_word}
use Rattle.transfer.specs.Transfers.{most_steps, most_sent_bits, closing, sent_bits, transfer_words, written}

-- What is checked, in this order, before word k of a table is sent behind so many steps and bits,
-- into a buffer of `size` bytes: the words that close the transfer must still fit.
abbrev pub step_checks : List Codeword → ℕ → ℕ → ℕ → ℕ → List Check
step_checks ws steps sent k size =
    (length ws ≤ k, no_word) ∷ ((most_steps ≤ steps) ⊎ (most_sent_bits < sent + length (bits_at ws k)), full) ∷ (size < 4 * (sent + length (bits_at ws k) + closing), short) ∷ []

-- what is checked before a transfer of so many bits is closed
abbrev pub close_checks : ℕ → ℕ → List Check
close_checks sent size = (size < 4 * (sent + closing), short) ∷ []

-- word k is sent: o becomes p, and its BIT words stand in the buffer behind those before
pub record Stepped (ws : List Codeword) (k : ℕ) (o p : OpenTransfer) (before after : List ℕ) : Type 0 where
  pub steps : p.steps ≡ o.steps + 1
  pub bits : p.bits ≡ o.bits + length (bits_at ws k)
  pub buffer : after ≡ written before o.bits (map bit_word (bits_at ws k))

-- o is closed as c: LOAD with the number of steps and END stand in the buffer behind those before
pub record Finished (o : OpenTransfer) (c : ClosedTransfer) (before after : List ℕ) : Type 0 where
  pub steps : c.steps ≡ o.steps
  pub bits : c.bits ≡ o.bits
  pub buffer : after ≡ written before o.bits (load_word o.steps ∷ end_word ∷ [])

-- An open transfer that has sent the chosen words, in order, into a buffer that was `before`:
-- their BIT words stand at its start, and the rest of it is as it was.
pub record Carries (o : OpenTransfer) (before now : List ℕ) (sent : List Codeword) : Type 0 where
  pub steps : o.steps ≡ length sent
  pub bits : o.bits ≡ length (sent_bits sent)
  pub room : 4 * o.bits ≤ length before
  -- once a word is sent there is room to close
  pub closable : (sent ≢ []) → 4 * (o.bits + closing) ≤ length before
  pub buffer : now ≡ written before 0 (map bit_word (sent_bits sent))

-- the file words of a closed transfer
abbrev pub word_count : ClosedTransfer → ℕ
word_count c = c.bits + closing

-- A closed transfer of the chosen words: its file words stand at the start of the buffer that was `before`,
-- and the rest of it is as it was.
pub record Delivers (c : ClosedTransfer) (before after : List ℕ) (sent : List Codeword) : Type 0 where
  pub steps : c.steps ≡ length sent
  pub bits : c.bits ≡ length (sent_bits sent)
  pub words : word_count c ≡ length (transfer_words sent)
  pub room : 4 * word_count c ≤ length before
  pub buffer : after ≡ written before 0 (transfer_words sent)
