-- The bits of words and of word sequences.
use Rattle.std.proofs.Common.{◌≡◌, ℕ, ◌<◌, List, [], ◌∷◌, ◌++◌, length, Some, Option, unwrap_or, sym, ap, ◌∙◌}
use Rattle.std.specs.List.{slice_get}
use Rattle.std.specs.Option.{option_map}
use Rattle.std.proofs.lemmas.List.{flat_map_more}
use Rattle.codetable.specs.declared.word.Codeword.{Codeword}
use Rattle.codetable.specs.Codewords.{bits}
use Rattle.codetable.specs.Sequences.{bits_at, Sequence, joined_bits}
use Rattle.codetable.proofs.Bits.{length-bits}

pub bits_there : (ws : List Codeword) (k : ℕ) (w : Codeword) → slice_get ws k ≡ Some w → bits_at ws k ≡ bits w
bits_there ws k w e = ap (λ (o : Option Codeword). unwrap_or (option_map bits o) []) e

pub length_there : (ws : List Codeword) (k : ℕ) (w : Codeword) → slice_get ws k ≡ Some w → length (bits_at ws k) ≡ w.len
length_there ws k w e = ap length (bits_there ws k w e) ∙ length-bits w.len w.value

-- one word more
pub joined_push : (ws : List Codeword) (ks : List ℕ) (k : ℕ) → joined_bits ws (ks ++ k ∷ []) ≡ joined_bits ws ks ++ bits_at ws k
joined_push ws ks k = sym (flat_map_more (bits_at ws) [] ks k)

pub sequence_push : (ws : List Codeword) (ks : List ℕ) (k : ℕ) → Sequence ws ks → k < length ws → Sequence ws (ks ++ k ∷ [])
sequence_push ws [] k all lt = (lt, tt)
sequence_push ws (j ∷ ks) k all lt = (all.0, sequence_push ws ks k all.1 lt)
