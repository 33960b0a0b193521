-- The estimate before a value, from those behind it, over the words that may come first.
use Rattle.std.proofs.Common.{◌≡◌, ℕ, suc, ◌+◌, ◌-◌, ◌^◌, ◌<◌, ◌≤◌, min, List, [], ◌∷◌, length, get_or, drop, ℤ, Some, None, Option, fold, sym, refl, ap, ◌∙◌, arith}
use Rattle.std.specs.List.{reduce, filter_map, cons_option}
use Rattle.std.proofs.lemmas.Bool.Decides.{nat_tests}
use Rattle.codetable.specs.declared.word.Codeword.{Codeword}
use Rattle.codetable.specs.declared.table.CodeTable.{CodeTable}
use Rattle.codetable.specs.Codewords.{AllFormed}
use Rattle.codetable.specs.Tables.{words}
use Rattle.softvalues.specs.declared.received.SoftValues.{SoftValues}
use Rattle.softvalues.proofs.Held.{all_on_scale}
use Rattle.softvalues.specs.Received.{values}
use Rattle.search.specs.Graphs.{unknown}
use Rattle.decoder.specs.Estimates.{share, extended, lesser, first_words, estimates, estimate, read, written, HoldsFrom}
use Rattle.decoder.specs.Laws.{few_values_of, estimate-drop, estimate_most, estimate_step}

-- the least of one number and others
fold_min : (a e : ℕ) (es : List ℕ) → fold min (min a e) es ≡ min a (fold min e es)
fold_min a e [] = refl
fold_min a e (x ∷ es) =
    let same : min (min a e) x ≡ min a (min e x) = omega arith in
    ap (λ (n : ℕ). fold min n es) same ∙ fold_min a (min e x) es

lesser_cons : (o : Option ℕ) (es : List ℕ) → lesser o (reduce min es) ≡ reduce min (cons_option o es)
lesser_cons None es = refl
lesser_cons (Some a) [] = refl
lesser_cons (Some a) (e ∷ es) = sym (ap Some (fold_min a e es))

-- what is read is what was written
read_written : (o : Option ℕ) → ((e : ℕ) → o ≡ Some e → e < unknown) → read (written o) ≡ o
read_written None low = refl
read_written (Some e) low = let less = low e refl in grind (arith, nat_tests)

module _ (t : CodeTable) (s : SoftValues) where
  -- an estimate is far below what stands for none
  pub estimate_low : (n e : ℕ) → estimate (words t) (values s) n ≡ Some e → e < 2 ^ 25
  estimate_low n e some =
      let most = estimate_most (words t) (values s) t.formed t.weighed (all_on_scale s) n e some in
      let few = few_values_of s in
      omega arith

  pub read_held : (n held : ℕ) → held ≡ written (estimate (words t) (values s) n) → read held ≡ estimate (words t) (values s) n
  read_held n held is =
      ap read is ∙ read_written (estimate (words t) (values s) n) (λ e some. let low = estimate_low n e some in omega arith)

  -- the estimate behind a word of n bits, read from memory
  pub read_behind : (ahead : List ℕ) (j n m : ℕ) → HoldsFrom (words t) (values s) (suc j) ahead → 1 ≤ n → m ≡ j + n → m ≤ length (values s) → read (get_or ahead m 0) ≡ estimate (words t) (values s) (j + n)
  read_behind ahead j n m holds some place within =
      read_held m (get_or ahead m 0) (holds m (omega arith) within) ∙ ap (estimate (words t) (values s)) place

-- the estimate at bit j if word w comes first there
abbrev pub by_word : List Codeword → List ℤ → ℕ → Codeword → Option ℕ
by_word ws vs j w = extended (share w (drop j vs)) (estimate ws vs (j + w.len))

module _ (ws : List Codeword) (vs : List ℤ) (j : ℕ) (before : j < length vs) where
  least_first : (us : List Codeword) → AllFormed us → first_words us (drop j vs) (estimates ws (drop (suc j) vs)) ≡ reduce min (filter_map (by_word ws vs j) us)
  unfolding first_words
  least_first [] formed = refl
  least_first (w ∷ us) formed =
      let es = estimates ws (drop (suc j) vs) in
      let some = (formed 0 w refl).0 in
      let after : get_or es (w.len - 1) None ≡ estimate ws vs (j + w.len) = estimate-drop ws vs (suc j) (w.len - 1) (omega arith) ∙ ap (estimate ws vs) (omega arith) in
      ap (λ (o : Option ℕ). lesser (extended (share w (drop j vs)) o) (first_words us (drop j vs) es)) after
      ∙ ap (lesser (by_word ws vs j w)) (least_first us (λ k. formed (suc k)))
      ∙ lesser_cons (by_word ws vs j w) (filter_map (by_word ws vs j) us)

  -- the estimate is the least over the words
  pub estimate_least : AllFormed ws → estimate ws vs j ≡ reduce min (filter_map (by_word ws vs j) ws)
  estimate_least formed = estimate_step ws vs j before ∙ least_first ws formed
