-- The word at a place, by the bytes there and by the list of all words.
use Rattle.std.proofs.Common.{◌≡◌, ℕ, zero, suc, ◌+◌, ◌*◌, ◌/◌, ◌<◌, ◌≤◌, List, [], ◌∷◌, length, map, get_or, Some, None, refl, sym, ap, ◌∙◌, ⊎_elim, arith}
use Rattle.std.proofs.lemmas.Bool.{cond-true, cond-false, le-leb, lt-leb, cases_lt}
use Rattle.std.specs.List.{slice_get}
use Rattle.std.specs.Option.{option_map}
use Rattle.std.proofs.lemmas.Option.{slice_get-map}
use Rattle.std.specs.Int.{from_be_bytes, w32}
use Rattle.std.specs.Simd.{first_chunks}
use Rattle.wordfile.specs.Words.{of_bytes, word_in, words}

-- the word of the four bytes from i on
abbrev four : List ℕ → ℕ → ℕ
four bs i = of_bytes (get_or bs i 0) (get_or bs (i + 1) 0) (get_or bs (i + 2) 0) (get_or bs (i + 3) 0)

word_whole : (bs : List ℕ) (k : ℕ) → 4 * k + 4 ≤ length bs → word_in bs k ≡ Some (four bs (4 * k))
word_whole bs k h = cond-true _ _ _ (le-leb _ _ h)

word_cut : (bs : List ℕ) (k : ℕ) → length bs < 4 * k + 4 → word_in bs k ≡ None
word_cut bs k h = cond-false _ _ _ (lt-leb _ _ h)

-- four bytes in front move a word by one place
behind : (a b c d : ℕ) (bs : List ℕ) (k i : ℕ) → get_or (a ∷ b ∷ c ∷ d ∷ bs) (4 * suc k + i) 0 ≡ get_or bs (4 * k + i) 0
behind a b c d bs k i = let far : 4 * suc k + i ≡ suc (suc (suc (suc (4 * k + i)))) = omega arith in ap (λ n. get_or (a ∷ b ∷ c ∷ d ∷ bs) n 0) far

pub word_listed : (bs : List ℕ) (k : ℕ) → slice_get (words bs) k ≡ word_in bs k
word_listed [] k = sym (word_cut [] k (omega arith))
word_listed (a ∷ []) k = sym (word_cut (a ∷ []) k (omega arith))
word_listed (a ∷ b ∷ []) k = sym (word_cut (a ∷ b ∷ []) k (omega arith))
word_listed (a ∷ b ∷ c ∷ []) k = sym (word_cut (a ∷ b ∷ c ∷ []) k (omega arith))
word_listed (a ∷ b ∷ c ∷ d ∷ bs) zero = sym (word_whole (a ∷ b ∷ c ∷ d ∷ bs) zero (omega arith))
word_listed (a ∷ b ∷ c ∷ d ∷ bs) (suc k) =
    let all = a ∷ b ∷ c ∷ d ∷ bs in
    let at_0 : get_or all (4 * suc k) 0 ≡ get_or bs (4 * k) 0 = let far : 4 * suc k ≡ suc (suc (suc (suc (4 * k)))) = omega arith in ap (λ n. get_or all n 0) far in
    let at_1 = behind a b c d bs k 1 in
    let at_2 = behind a b c d bs k 2 in
    let at_3 = behind a b c d bs k 3 in
    let same : four bs (4 * k) ≡ four all (4 * suc k) = cc in
    word_listed bs k
    ∙ ⊎_elim
    (λ cut. word_cut bs k cut ∙ sym (word_cut all (suc k) (omega arith)))
    (λ whole. word_whole bs k whole ∙ ap Some same ∙ sym (word_whole all (suc k) (omega arith)))
    (cases_lt (length bs) (4 * k + 4))

-- the words are what the chunks of four bytes hold
words_of_chunks : (bs : List ℕ) → map (from_be_bytes w32) (first_chunks 4 (length bs / 4) bs) ≡ words bs
words_of_chunks [] = refl
words_of_chunks (a ∷ []) = refl
words_of_chunks (a ∷ b ∷ []) = refl
words_of_chunks (a ∷ b ∷ c ∷ []) = refl
words_of_chunks (a ∷ b ∷ c ∷ d ∷ bs) =
    let all = a ∷ b ∷ c ∷ d ∷ bs in
    let count : length all / 4 ≡ suc (length bs / 4) = omega arith in
    ap (λ n. map (from_be_bytes w32) (first_chunks 4 n all)) count ∙ ap (λ (ws : List ℕ). of_bytes a b c d ∷ ws) (words_of_chunks bs)

pub listed_of_chunks : (bs : List ℕ) (k : ℕ) → slice_get (words bs) k ≡ option_map (from_be_bytes w32) (slice_get (first_chunks 4 (length bs / 4) bs) k)
listed_of_chunks bs k =
    ap (λ (ws : List ℕ). slice_get ws k) (sym (words_of_chunks bs)) ∙ slice_get-map (from_be_bytes w32) (first_chunks 4 (length bs / 4) bs) k
