-- What a buffer holds after file words are written into it.
use Rattle.std.proofs.Common.{◌≡◌, ℕ, ◌+◌, ◌*◌, ◌≤◌, List, [], ◌∷◌, ◌++◌, length, take, drop, sym, refl, ap, ◌∙◌, append_assoc, arith, length-append, length-drop, take-append-drop, length-take}
use Rattle.std.proofs.lemmas.List.{length-take-le, take_at, drop_at, drop-drop}
use Rattle.transfer.specs.Format.{word_bytes, bytes_of}
use Rattle.transfer.specs.Transfers.{written}

-- four bytes to a word
pub length_bytes : (ws : List ℕ) → length (bytes_of ws) ≡ 4 * length ws
length_bytes [] = refl
length_bytes (w ∷ ws) = let h = length_bytes ws in omega (arith, length-append (word_bytes w) (bytes_of ws))

pub bytes_append : (us vs : List ℕ) → bytes_of (us ++ vs) ≡ bytes_of us ++ bytes_of vs
bytes_append [] vs = refl
bytes_append (u ∷ us) vs = ap (λ (l : List ℕ). word_bytes u ++ l) (bytes_append us vs)

pub written_none : (b : List ℕ) (at : ℕ) → written b at [] ≡ b
written_none b at = let e : 4 * (at + 0) ≡ 4 * at = omega arith in rw e (take-append-drop (4 * at) b)

module _ (b : List ℕ) (at : ℕ) (us : List ℕ) (fits : 4 * (at + length us) ≤ length b) where
  pub length-written : length (written b at us) ≡ length b
  length-written = simp (length-append, length-take, length-drop) (omega (arith, length_bytes us))

  front : length (take (4 * at) b ++ bytes_of us) ≡ 4 * (at + length us)
  front = length-append (take (4 * at) b) (bytes_of us) ∙ omega (arith, length-take-le (4 * at) b (omega arith), length_bytes us)

  regrouped : written b at us ≡ (take (4 * at) b ++ bytes_of us) ++ drop (4 * (at + length us)) b
  regrouped = sym (append_assoc (take (4 * at) b) (bytes_of us) (drop (4 * (at + length us)) b))

  -- what stands before the end of what was written, and behind it
  pub take-written : take (4 * (at + length us)) (written b at us) ≡ take (4 * at) b ++ bytes_of us
  take-written =
      ap (take (4 * (at + length us))) regrouped
      ∙ take_at (take (4 * at) b ++ bytes_of us) (drop (4 * (at + length us)) b) (4 * (at + length us)) front

  pub drop-written : drop (4 * (at + length us)) (written b at us) ≡ drop (4 * (at + length us)) b
  drop-written =
      ap (drop (4 * (at + length us))) regrouped
      ∙ drop_at (take (4 * at) b ++ bytes_of us) (drop (4 * (at + length us)) b) (4 * (at + length us)) front

  -- words that are written behind others
  pub written_more : (vs : List ℕ) → written (written b at us) (at + length us) vs ≡ written b at (us ++ vs)
  written_more vs =
      let n = at + length us in
      let past : drop (4 * (n + length vs)) (written b at us) ≡ drop (4 * (at + length (us ++ vs))) b =
      ap (λ (i : ℕ). drop i (written b at us)) (omega arith)
      ∙ sym (drop-drop (4 * length vs) (4 * n) (written b at us))
      ∙ ap (drop (4 * length vs)) drop-written
      ∙ drop-drop (4 * length vs) (4 * n) b
      ∙ ap (λ (i : ℕ). drop i b) (omega (arith, length-append us vs)) in
      ap (λ (l : List ℕ). l ++ (bytes_of vs ++ drop (4 * (n + length vs)) (written b at us))) take-written
      ∙ append_assoc (take (4 * at) b) (bytes_of us) (bytes_of vs ++ drop (4 * (n + length vs)) (written b at us))
      ∙ ap (λ (l : List ℕ). take (4 * at) b ++ l) (
      sym (append_assoc (bytes_of us) (bytes_of vs) (drop (4 * (n + length vs)) (written b at us)))
      ∙ ap (λ (l : List ℕ). l ++ drop (4 * (n + length vs)) (written b at us)) (sym (bytes_append us vs))
      ∙ ap (λ (l : List ℕ). bytes_of (us ++ vs) ++ l) past
      )
