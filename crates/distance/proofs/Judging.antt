-- What a refused search of the tails map says of the table, the queue and the costs.
use Rattle.std.proofs.Common.{◌≡◌, ℕ, ◌<◌, true, List, length, is_err, IsErrAnd, Ok, Err, Result, sym, refl, subst, inl, inr, arith}
use Rattle.std.proofs.lemmas.Bool.{false≢true}
use Rattle.refusal.specs.Checks.{Judged, FirstDue}
use Rattle.refusal.specs.Refusals.{number}
use Rattle.refusal.specs.declared.Refusal.{Refusal}
use Rattle.refusal.specs.declared.Refusal.TheVariants.{Search}
use Rattle.refusal.specs.declared.SearchFault.{SearchFault}
use Rattle.refusal.specs.declared.SearchFault.TheVariants.{BadCount, Short, NoFit}
use Rattle.codetable.specs.declared.word.Codeword.{Codeword}
use Rattle.queue.specs.Queues.{Model}
use Rattle.search.specs.Searches.{Refused, search_checks}
use Rattle.distance.specs.Tails.{tails}
use Rattle.distance.specs.Laws.{Sound}
use Rattle.distance.specs.Calls.{Refusals, distance_checks}
use Rattle.distance.proofs.Paths.{path_there}

module _ (ws : List Codeword) (s : Sound ws) (m : Model) (costs : List ℕ) (A B L : Type 0) (done : ℕ → Type 0) where
  abbrev kept : Refusal → Type 0
  kept f = Refusals f × A × B

  by_fault : (length ws < 2 → ⊥) → (f : SearchFault) → FirstDue (search_checks (tails ws) m costs) (number (Search f)) → Refused f (A × B) L → Judged (distance_checks ws m costs) (λ e. e) (Err (Search f)) done kept
  by_fault two Short (inl few) same = (inr (two, inl (few.0, refl)), (inr refl, same.0, same.1))
  by_fault two Short (inr (enough, inl due)) same = let e = due.1 in absurd (omega arith)
  by_fault two Short (inr (enough, inr none)) same = absurd none.1
  by_fault two NoFit (inl few) left = let e = few.1 in absurd (omega arith)
  by_fault two NoFit (inr (enough, inl due)) left =
      let way = path_there ws s (omega (arith, two)) in absurd (due.0 way.0 way.1)
  by_fault two NoFit (inr (enough, inr none)) left = absurd none.1
  by_fault two BadCount due never = absurd never

  -- the fault of the search passes up, and is that there is too little room
  pub by_search : (length ws < 2 → ⊥) → (f : SearchFault) (r : Result ℕ Refusal) → is_err r ≡ true → IsErrAnd r (λ e. e ≡ Search f) → FirstDue (search_checks (tails ws) m costs) (number (Search f)) → Refused f (A × B) L → Judged (distance_checks ws m costs) (λ e. e) r done kept
  by_search two f (Ok d) err is due left = absurd (false≢true err)
  by_search two f (Err e) err is due left =
      subst (λ (x : Refusal). Judged (distance_checks ws m costs) (λ e. e) (Err x) done kept) (sym is) (by_fault two f due left)
