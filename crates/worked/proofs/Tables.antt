-- Computed tests of tables and of values.
use Rattle.std.proofs.Common.{◌≡◌, ℕ, ◌<◌, Bool, true, ◌&&◌, ltb, leb, List, length, ℤ}
use Rattle.std.proofs.lemmas.Bool.{and_parts, leb-true, ltb-true}
use Rattle.codetable.specs.declared.word.Codeword.{Codeword}
use Rattle.codetable.specs.Codewords.{largest, most_bits, most_weight, Formed, AllFormed, AllWeighed}
use Rattle.codetable.specs.Sequences.{Sequence}
use Rattle.softvalues.specs.Scale.{magnitude, most_magnitude}
use Rattle.softvalues.specs.Stored.{AllOnScale}
use Rattle.worked.proofs.Tests.{all?, at_all, all_of}

unfoldable pub formed? : Codeword → Bool
formed? w = leb 1 w.len && (leb w.len most_bits && leb w.value (largest w.len))

formed_true : (w : Codeword) → formed? w ≡ true → Formed w
unfolding formed?
formed_true w ok =
    let parts = and_parts (leb 1 w.len) (leb w.len most_bits && leb w.value (largest w.len)) ok in
    let rest = and_parts (leb w.len most_bits) (leb w.value (largest w.len)) parts.1 in
    (leb-true 1 w.len parts.0, leb-true w.len most_bits rest.0, leb-true w.value (largest w.len) rest.1)

pub all_formed : (ws : List Codeword) → all? formed? ws ≡ true → AllFormed ws
all_formed ws ok k w at_k = formed_true w (at_all formed? ws ok k w at_k)

abbrev pub weighed? : Codeword → Bool
weighed? w = leb w.weight most_weight

pub all_weighed : (ws : List Codeword) → all? weighed? ws ≡ true → AllWeighed ws
all_weighed ws ok k w at_k = leb-true w.weight most_weight (at_all weighed? ws ok k w at_k)

abbrev pub scaled? : ℤ → Bool
scaled? v = leb (magnitude v) most_magnitude

pub all_scaled : (vs : List ℤ) → all? scaled? vs ≡ true → AllOnScale vs
all_scaled vs ok k v at_k = leb-true (magnitude v) most_magnitude (at_all scaled? vs ok k v at_k)

-- each number of a list is that of a word
abbrev pub sequence? : List Codeword → List ℕ → Bool
sequence? ws ks = all? (λ (k : ℕ). ltb k (length ws)) ks

pub is_sequence : (ws : List Codeword) (ks : List ℕ) → sequence? ws ks ≡ true → Sequence ws ks
is_sequence ws ks ok = all_of (λ (k : ℕ). k < length ws) (λ (k : ℕ). ltb k (length ws)) (λ k less. ltb-true k (length ws) less) ks ok
