-- The first part of a list that is cut at the elements that pass a test. Assumes nothing.
use Rattle.std.proofs.Common.{◌≡◌, ℕ, suc, ◌+◌, ◌<◌, ◌≤◌, Bool, true, not, List, [], ◌∷◌, length, get_or, take, drop, filter, sym, refl, ap, ◌∙◌, ⊎_elim, arith}
use Rattle.std.proofs.Math.ListN.{drop_of_length-le}
use Rattle.std.specs.List.{between, position, position_or_len, slice_split}
use Rattle.std.specs.Option.{unwrap_or}
use Rattle.std.proofs.lemmas.List.{take_all, drop-drop, drop_more, length-drop}
use Rattle.std.proofs.lemmas.List.Folds.{length-prefix_len}
use Rattle.std.proofs.lemmas.List.Splits.{slice_split_first, slice_split_none}
use Rattle.std.proofs.lemmas.List.Sums.{prefix_len-le-length, prefix_len-drop_yes, fails_before_first, passes_at_first}
use Rattle.std.proofs.lemmas.Bool.{cond-true, cond-false, cases_Bool, cases_lt, lt-ltb, le-ltb}
use Rattle.script.specs.Script.{blank, filled, fields}

module _ (p : ℕ → Bool) (xs : List ℕ) where
  pub within : position_or_len p xs ≤ length xs
  within = prefix_len-le-length (λ x. not (p x)) xs

  pub position_unwraps : unwrap_or (position p xs) (length xs) ≡ position_or_len p xs
  position_unwraps =
      ⊎_elim
      (λ lt. ap (λ o. unwrap_or o (length xs)) (cond-true _ _ _ (lt-ltb _ _ lt)))
      (λ le. ap (λ o. unwrap_or o (length xs)) (cond-false _ _ _ (le-ltb _ _ le)) ∙ omega (arith, within))
      (cases_lt (position_or_len p xs) (length xs))

  pub only_part : length xs ≤ position_or_len p xs → slice_split p xs ≡ xs ∷ []
  only_part le = slice_split_none p xs (λ k d lt. fails_before_first p xs k d (omega arith))

  -- the first part is as long as what stands before the first element that passes
  pub first_part : position_or_len p xs ≡ length (get_or (slice_split p xs) 0 [])
  first_part =
      ⊎_elim
      (λ lt. sym (ap (λ l. length (get_or l 0 [])) (slice_split_first p xs 0 lt) ∙ length-prefix_len (λ x. not (p x)) xs))
      (λ le. omega (arith, within, ap (λ l. length (get_or l 0 [])) (only_part le)))
      (cases_lt (position_or_len p xs) (length xs))

-- blanks in front change no field
pub after_blanks : (bs : List ℕ) → fields (drop (position_or_len (λ b. not (blank b)) bs) bs) ≡ fields bs
after_blanks [] = refl
after_blanks (b ∷ bs) =
    ⊎_elim
    (λ e.
    let one_more : position_or_len (λ x. not (blank x)) (b ∷ bs) ≡ suc (position_or_len (λ x. not (blank x)) bs) = cond-true _ _ _ (ap (λ t. not (not t)) e) ∙ omega arith in
    ap (λ k. fields (drop k (b ∷ bs))) one_more ∙ after_blanks bs ∙ sym (ap (filter filled) (cond-true _ _ _ e)))
    (λ e. ap (λ k. fields (drop k (b ∷ bs))) (cond-false _ _ _ (ap (λ t. not (not t)) e)))
    (cases_Bool (blank b))

filled_long : (p : List ℕ) → 0 < length p → filled p ≡ true
filled_long [] h = absurd (omega arith)
filled_long (b ∷ p) h = refl

-- a field, and what follows it
first_field : (bs : List ℕ) → 0 < position_or_len blank bs → fields bs ≡ take (position_or_len blank bs) bs ∷ fields (drop (position_or_len blank bs) bs)
first_field bs some =
    let n = position_or_len blank bs in
    ⊎_elim
    (λ lt.
    ap (filter filled) (slice_split_first blank bs 0 lt)
    ∙ cond-true _ _ _ (filled_long (take n bs) (omega (arith, length-prefix_len (λ x. not (blank x)) bs)))
    ∙ ap (λ l. take n bs ∷ l) (sym (ap fields (drop_more bs n 0 lt) ∙ ap (filter filled) (cond-true _ _ _ (passes_at_first blank bs 0 lt)))))
    (λ le.
    ap (filter filled) (only_part blank bs le)
    ∙ cond-true _ _ _ (filled_long bs (omega (arith, within blank bs)))
    ∙ ap (λ l. l ∷ []) (sym (take_all n bs le))
    ∙ ap (λ l. take n bs ∷ fields l) (sym (drop_of_length-le bs le)))
    (cases_lt n (length bs))

-- what begins with neither a blank nor a field is empty
no_field : (bs : List ℕ) → position_or_len blank (drop (position_or_len (λ b. not (blank b)) bs) bs) ≡ 0 → fields bs ≡ []
no_field bs none =
    let k = position_or_len (λ b. not (blank b)) bs in
    ⊎_elim
    (λ lt. absurd (omega (arith, none, prefix_len-drop_yes (λ x. not (blank x)) bs k 0 lt (passes_at_first (λ b. not (blank b)) bs 0 lt))))
    (λ le. sym (after_blanks bs) ∙ ap fields (drop_of_length-le bs le))
    (cases_lt k (length bs))

-- a line whose first k bytes are its first blanks, and whose first field has n bytes
module _ (line solid : List ℕ) (k n : ℕ) (blanks : k ≡ position_or_len (λ b. not (blank b)) line) (behind : solid ≡ drop k line) (ends : n ≡ position_or_len blank solid) where
  there : solid ≡ drop (position_or_len (λ b. not (blank b)) line) line
  there = behind ∙ ap (λ j. drop j line) blanks

  solid_fields : fields line ≡ fields solid
  solid_fields = sym (ap fields there ∙ after_blanks line)

  pub takes_field : 0 < n → fields line ≡ take n solid ∷ fields (drop n solid)
  takes_field some = solid_fields ∙ first_field solid (omega (arith, ends)) ∙ ap (λ j. take j solid ∷ fields (drop j solid)) (sym ends)

  pub takes_none : n ≡ 0 → fields line ≡ []
  takes_none none = no_field line (ap (position_or_len blank) (sym there) ∙ sym ends ∙ none)

  pub leaves_none : n ≡ 0 → fields (drop n solid) ≡ []
  leaves_none none = ap (λ j. fields (drop j solid)) none ∙ sym solid_fields ∙ takes_none none

-- where the first part of what stands from a place on ends
module _ (p : ℕ → Bool) (xs : List ℕ) (from n : ℕ) (ends : n ≡ position_or_len p (drop from xs)) where
  behind_from : drop (n + 1) (drop from xs) ≡ drop (from + n + 1) xs
  behind_from = drop-drop (n + 1) from xs ∙ ap (λ j. drop j xs) (omega arith)

  between_from : between from (from + n) xs ≡ take n (drop from xs)
  between_from = ap (λ j. take j (drop from xs)) (omega arith)

  pub part_more : from ≤ length xs → from + n < length xs → slice_split p (drop from xs) ≡ between from (from + n) xs ∷ slice_split p (drop (from + n + 1) xs)
  part_more inside lt =
      slice_split_first p (drop from xs) 0 (omega (arith, ends, length-drop from xs))
      ∙ ap (λ j. take j (drop from xs) ∷ slice_split p (drop (j + 1) (drop from xs))) (sym ends)
      ∙ ap (λ l. l ∷ slice_split p (drop (n + 1) (drop from xs))) (sym between_from)
      ∙ ap (λ l. between from (from + n) xs ∷ slice_split p l) behind_from

  pub part_last : length xs ≤ from + n → slice_split p (drop from xs) ≡ between from (from + n) xs ∷ []
  part_last le =
      only_part p (drop from xs) (omega (arith, ends, length-drop from xs))
      ∙ ap (λ l. l ∷ []) (sym (between_from ∙ take_all n (drop from xs) (omega (arith, length-drop from xs))))
