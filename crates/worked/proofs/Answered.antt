-- An example of decoding holds by one computed test.
use Rattle.std.proofs.Common.{◌≡◌, ℕ, ◌/◌, ◌%◌, Bool, true, not, ◌&&◌, eqb, leb, List, length, ℤ, is_some, Some, None, Option, refl, subst}
use Rattle.std.proofs.lemmas.Bool.{and_parts, eqb-true, leb-true, false≢true}
use Rattle.codetable.specs.declared.word.Codeword.{Codeword}
use Rattle.softvalues.specs.Stored.{most_values}
use Rattle.queue.specs.Queues.{tally}
use Rattle.search.specs.Searches.{Counted, IsOpened, IsWaiting}
use Rattle.decoder.specs.Metrics.{metric, changed, most_list}
use Rattle.decoder.specs.Trellis.{columns, trellis}
use Rattle.decoder.specs.Laws.{Sound}
use Rattle.worked.specs.Cases.{Answer, Answers, ComesOut, Decoding, Holds}
use Rattle.worked.proofs.Tests.{all?}
use Rattle.worked.proofs.Tables.{formed?, weighed?, scaled?, all_formed, all_weighed, all_scaled}
use Rattle.worked.proofs.Bests.{best?, best_by}
use Rattle.worked.proofs.Leasts.{least, none_by}
use Rattle.worked.proofs.Counts.{opened_at, waiting_at, opened_count, waiting_count}

unfoldable pub sound? : List Codeword → List ℤ → ℕ → Bool
sound? ws vs n = all? formed? ws && (all? weighed? ws && (all? scaled? vs && (leb (length vs) most_values && leb n most_list)))

is_sound : (ws : List Codeword) (vs : List ℤ) (n : ℕ) → sound? ws vs n ≡ true → Sound ws vs n
unfolding sound?
is_sound ws vs n ok =
    let few = leb (length vs) most_values && leb n most_list in
    let a = and_parts (all? formed? ws) (all? weighed? ws && (all? scaled? vs && few)) ok in
    let b = and_parts (all? weighed? ws) (all? scaled? vs && few) a.1 in
    let c = and_parts (all? scaled? vs) few b.1 in
    let d = and_parts (leb (length vs) most_values) (leb n most_list) c.1 in
    record {
      formed = all_formed ws a.0;
      weighed = all_weighed ws b.0;
      scaled = all_scaled vs c.0;
      few_values = leb-true (length vs) most_values d.0;
      few_words = leb-true n most_list d.1;
    }

-- the opened and the waiting places, counted
unfoldable pub opened_number : List Codeword → List ℤ → ℕ → ℕ → ℕ
opened_number ws vs n limit = tally (λ (p : ℕ). opened_at ws vs limit (p / columns) (p % columns)) (trellis ws vs n).size

unfoldable pub waiting_number : List Codeword → List ℤ → ℕ → ℕ → ℕ
waiting_number ws vs n limit = tally (λ (p : ℕ). waiting_at ws vs limit (p / columns) (p % columns)) (trellis ws vs n).size

unfoldable pub answers? : List Codeword → List ℤ → ℕ → Answer → Bool
answers? ws vs n a =
    sound? ws vs n
    && (best? ws vs (length vs) n a.list
    && (eqb (metric ws vs a.list) a.its_metric
    && (eqb (changed ws vs a.list) a.its_changed
    && (eqb (opened_number ws vs n a.its_metric) a.opened
    && eqb (waiting_number ws vs n a.its_metric) a.waiting))))

pub answers_by : (ws : List Codeword) (vs : List ℤ) (n : ℕ) (a : Answer) → answers? ws vs n a ≡ true → Answers ws vs n a
unfolding answers? opened_number waiting_number
answers_by ws vs n a ok =
    let waiting = eqb (waiting_number ws vs n a.its_metric) a.waiting in
    let opened = eqb (opened_number ws vs n a.its_metric) a.opened in
    let changes = eqb (changed ws vs a.list) a.its_changed in
    let costs = eqb (metric ws vs a.list) a.its_metric in
    let best = best? ws vs (length vs) n a.list in
    let x = and_parts (sound? ws vs n) (best && (costs && (changes && (opened && waiting)))) ok in
    let y = and_parts best (costs && (changes && (opened && waiting))) x.1 in
    let z = and_parts costs (changes && (opened && waiting)) y.1 in
    let u = and_parts changes (opened && waiting) z.1 in
    let v = and_parts opened waiting u.1 in
    let s = is_sound ws vs n x.0 in
    record {
      best = best_by ws vs (length vs) n a.list y.0;
      its_metric = eqb-true (metric ws vs a.list) a.its_metric z.0;
      its_changed = eqb-true (changed ws vs a.list) a.its_changed u.0;
      opened = subst (Counted (IsOpened (trellis ws vs n) (Some a.its_metric)) (trellis ws vs n).size) (eqb-true (opened_number ws vs n a.its_metric) a.opened v.0) (opened_count ws vs n s a.its_metric);
      waiting = subst (Counted (IsWaiting (trellis ws vs n) (Some a.its_metric)) (trellis ws vs n).size) (eqb-true (waiting_number ws vs n a.its_metric) a.waiting v.1) (waiting_count ws vs n s a.its_metric);
    }

-- an example holds: its answer does, or no list fits
unfoldable pub comes_out? : List Codeword → List ℤ → ℕ → Option Answer → Bool
unfolding answers?
comes_out? ws vs n None = not (is_some (least ws vs n (length vs)))
comes_out? ws vs n (Some a) = answers? ws vs n a

unfoldable pub holds? : Decoding → Bool
holds? d = comes_out? d.table d.values d.word_count d.expected

not_some : (o : Option ℕ) → not (is_some o) ≡ true → o ≡ None
not_some None ok = refl
not_some (Some c) ok = absurd (false≢true ok)

comes_out : (ws : List Codeword) (vs : List ℤ) (n : ℕ) (o : Option Answer) → comes_out? ws vs n o ≡ true → ComesOut ws vs n o
unfolding comes_out?
comes_out ws vs n None ok = none_by ws vs (length vs) n (not_some (least ws vs n (length vs)) ok)
comes_out ws vs n (Some a) ok = answers_by ws vs n a ok

pub holds_by : (d : Decoding) → holds? d ≡ true → Holds d
unfolding holds?
holds_by d ok = comes_out d.table d.values d.word_count d.expected ok
