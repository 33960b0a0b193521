-- What the answer of a search says of the lists of words.
use Rattle.std.proofs.Common.{◌≡◌, ℕ, ◌+◌, ◌<◌, ◌≤◌, true, ◌⊎◌, List, length, ℤ, is_err, IsErrAnd, None, Ok, Err, Result, sym, refl, subst, inl, inr, ⊎_elim, arith}
use Rattle.std.proofs.lemmas.Bool.{false≢true}
use Rattle.refusal.specs.Checks.{Judged, FirstDue}
use Rattle.refusal.specs.Refusals.{number}
use Rattle.refusal.specs.declared.Refusal.TheVariants.{Search}
use Rattle.refusal.specs.declared.SearchFault.{SearchFault}
use Rattle.refusal.specs.declared.SearchFault.TheVariants.{BadCount, Short, NoFit}
use Rattle.codetable.specs.declared.word.Codeword.{Codeword}
use Rattle.codetable.specs.declared.table.CodeTable.{CodeTable}
use Rattle.codetable.specs.Tables.{words}
use Rattle.softvalues.specs.declared.received.SoftValues.{SoftValues}
use Rattle.softvalues.specs.Received.{values}
use Rattle.queue.specs.Queues.{Model}
use Rattle.search.specs.Searches.{Leaves, Refused, by_search, search_checks}
use Rattle.decoder.specs.declared.Decoded.{Decoded}
use Rattle.decoder.specs.Metrics.{metric, most_list}
use Rattle.decoder.specs.Estimates.{Ahead, EstimatesAreLeast}
use Rattle.decoder.specs.Trellis.{trellis, PathsAreLists}
use Rattle.decoder.specs.Laws.{Sound, sound_of}
use Rattle.decoder.specs.Decoding.{Remains, Spares, decode_checks}
use Rattle.decoder.proofs.Filled.{estimates_are_least}
use Rattle.decoder.proofs.Paths.{paths_are_lists}

-- what every call of the decoder promises
pub lists_of : (t : CodeTable) (s : SoftValues) (word_count : ℕ) → word_count ≤ most_list → PathsAreLists (words t) (values s) word_count
lists_of t s word_count few = paths_are_lists (words t) (values s) word_count (sound_of t s word_count few)

pub estimates_of : (t : CodeTable) (s : SoftValues) → EstimatesAreLeast (words t) (values s)
estimates_of t s = estimates_are_least (words t) t.formed (values s)

module _ (ws : List Codeword) (vs : List ℤ) (word_count : ℕ) (s : Sound ws vs word_count) where
  module _ (m q : Model) (costs costs' ahead ahead' : List ℕ) (A B C : Type 0) (done : Decoded → Type 0) where
    abbrev kept : SearchFault → Type 0
    kept f = Spares f (A × B × C) (Remains ws vs word_count None m q costs costs' ahead ahead')

    by_fault : ((word_count < 1) ⊎ (most_list < word_count) → ⊥) → ((m.size < (trellis ws vs word_count).size) ⊎ ((length costs < (trellis ws vs word_count).size) ⊎ (length ahead < length vs + 1)) → ⊥) → Ahead ws vs ahead ahead' → (f : SearchFault) → FirstDue (search_checks (trellis ws vs word_count) m costs) (number (Search f)) → Refused f (A × B) (Leaves (trellis ws vs word_count) None m q costs costs') → Judged (decode_checks ws vs word_count m costs ahead) by_search (Err f) done kept
    by_fault counted room estimated Short (inl few) same = absurd (room (⊎_elim (λ h. inl h) (λ h. inr (inl h)) few.0))
    by_fault counted room estimated Short (inr (enough, inl due)) same = let e = due.1 in absurd (omega arith)
    by_fault counted room estimated Short (inr (enough, inr none)) same = absurd none.1
    by_fault counted room estimated NoFit (inl few) left = let e = few.1 in absurd (omega arith)
    by_fault counted room estimated NoFit (inr (enough, inl due)) left =
        let lists = paths_are_lists ws vs word_count s in (
          inr (counted, inr (room, inl (λ ks fits. due.0 (metric ws vs ks) (lists.from_list word_count (length vs) ks (omega arith) (omega arith) fits), refl))),
          record { searched = left; estimated = estimated },
        )
    by_fault counted room estimated NoFit (inr (enough, inr none)) left = absurd none.1
    by_fault counted room estimated BadCount due never = absurd never

    -- the fault of the search passes up, and is that no list fits
    pub by_found : ((word_count < 1) ⊎ (most_list < word_count) → ⊥) → ((m.size < (trellis ws vs word_count).size) ⊎ ((length costs < (trellis ws vs word_count).size) ⊎ (length ahead < length vs + 1)) → ⊥) → Ahead ws vs ahead ahead' → (f : SearchFault) (r : Result Decoded SearchFault) → is_err r ≡ true → IsErrAnd r (λ e. e ≡ f) → FirstDue (search_checks (trellis ws vs word_count) m costs) (number (Search f)) → Refused f (A × B) (Leaves (trellis ws vs word_count) None m q costs costs') → Judged (decode_checks ws vs word_count m costs ahead) by_search r done kept
    by_found counted room estimated f (Ok d) err is due left = absurd (false≢true err)
    by_found counted room estimated f (Err e) err is due left =
        subst (λ (x : SearchFault). Judged (decode_checks ws vs word_count m costs ahead) by_search (Err x) done kept) (sym is) (by_fault counted room estimated f due left)
