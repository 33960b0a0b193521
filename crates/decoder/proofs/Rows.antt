-- The edges of a place, by the words that fit there.
use Rattle.std.proofs.Common.{◌≡◌, ℕ, zero, suc, ◌+◌, ◌≤◌, leb, List, [], ◌∷◌, length, drop, map, ℤ, Some, sym, refl, ap, ◌∙◌, subst, ⊎_elim, arith}
use Rattle.std.specs.List.{slice_get, filter, count_by}
use Rattle.std.specs.Option.{option_map}
use Rattle.std.proofs.lemmas.List.{length-map}
use Rattle.std.proofs.lemmas.List.Sums.{length-filter}
use Rattle.std.proofs.lemmas.Bool.{cases_Bool, cond-true, cond-false, leb-true}
use Rattle.codetable.specs.declared.word.Codeword.{Codeword}
use Rattle.search.specs.Graphs.{nth as edge_nth}
use Rattle.decoder.specs.Estimates.{share}
use Rattle.decoder.specs.Trellis.{trellis_place, fits_behind, row}

-- an edge for each of a list's words
nth_map : (f : Codeword → ℕ × ℕ) (ws : List Codeword) (n : ℕ) → edge_nth (map f ws) n ≡ option_map f (slice_get ws n)
nth_map f [] n = refl
nth_map f (w ∷ ws) zero = refl
nth_map f (w ∷ ws) (suc n) = nth_map f ws n

module _ (vs : List ℤ) (i j : ℕ) where
  -- the edge that adds a word
  abbrev pub edge_of : Codeword → ℕ × ℕ
  edge_of w = (trellis_place (i + 1) (j + w.len), share w (drop j vs))

  fitting_front : (x : Codeword) (ws : List Codeword) (n : ℕ) (w : Codeword) → j + x.len ≤ length vs → ((m : ℕ) → slice_get (filter (fits_behind vs j) ws) m ≡ Some w → j + w.len ≤ length vs) → slice_get (x ∷ filter (fits_behind vs j) ws) n ≡ Some w → j + w.len ≤ length vs
  fitting_front x ws zero w fits later at_n = let same : x ≡ w = cc in subst (λ (y : Codeword). j + y.len ≤ length vs) same fits
  fitting_front x ws (suc n) w fits later at_n = later n at_n

  row_words : (ws : List Codeword) → row ws vs i j ≡ map edge_of (filter (fits_behind vs j) ws)
  unfolding row
  row_words [] = refl
  row_words (w ∷ ws) =
      let test = leb (j + w.len) (length vs) in
      let edges = row ws vs i j in
      let fitting = filter (fits_behind vs j) ws in
      ⊎_elim
      (λ t. cond-true test (edge_of w ∷ edges) edges t ∙ ap (λ (es : List (ℕ × ℕ)). edge_of w ∷ es) (row_words ws) ∙ sym (ap (map edge_of) (cond-true test (w ∷ fitting) fitting t)))
      (λ f. cond-false test (edge_of w ∷ edges) edges f ∙ row_words ws ∙ sym (ap (map edge_of) (cond-false test (w ∷ fitting) fitting f)))
      (cases_Bool test)

  -- a word among those that fit does
  pub fitting_fits : (ws : List Codeword) (n : ℕ) (w : Codeword) → slice_get (filter (fits_behind vs j) ws) n ≡ Some w → j + w.len ≤ length vs
  fitting_fits [] n w at_n = let z : ◌≡◌ {A = ℕ} 0 1 = cc in absurd (omega arith)
  fitting_fits (x ∷ ws) n w at_n =
      let test = leb (j + x.len) (length vs) in
      let fitting = filter (fits_behind vs j) ws in
      ⊎_elim
      (λ t. fitting_front x ws n w (leb-true (j + x.len) (length vs) t) (λ m e. fitting_fits ws m w e) (ap (λ (l : List Codeword). slice_get l n) (sym (cond-true test (x ∷ fitting) fitting t)) ∙ at_n))
      (λ f. fitting_fits ws n w (ap (λ (l : List Codeword). slice_get l n) (sym (cond-false test (x ∷ fitting) fitting f)) ∙ at_n))
      (cases_Bool test)

  pub length-row : (ws : List Codeword) → length (row ws vs i j) ≡ count_by (fits_behind vs j) ws
  length-row ws =
      ap length (row_words ws) ∙ length-map (filter (fits_behind vs j) ws) edge_of ∙ length-filter (fits_behind vs j) ws

  pub nth_row : (ws : List Codeword) (n : ℕ) → edge_nth (row ws vs i j) n ≡ option_map edge_of (slice_get (filter (fits_behind vs j) ws) n)
  nth_row ws n =
      ap (λ (es : List (ℕ × ℕ)). edge_nth es n) (row_words ws) ∙ nth_map edge_of (filter (fits_behind vs j) ws) n
