-- Every example holds.
use Rattle.std.proofs.Common.{false, [], ◌∷◌, refl, inl, inr, lit<, lit≤}
use Rattle.std.specs.List.{AllByRecursion}
use Rattle.codetable.specs.Codewords.{bits_of, largest}
use Rattle.codetable.specs.Tables.{entered}
use Rattle.queue.specs.Queues.{tally}
use Rattle.distance.specs.Distances.{hamming}
use Rattle.distance.specs.Tails.{against, pairs, edges_from}
use Rattle.decoder.specs.Metrics.{over, weights}
use Rattle.decoder.specs.Estimates.{first_words, estimates}
use Rattle.worked.specs.Cases.{Holds, Spreads, Refused}
use Rattle.worked.specs.Lines.{WorkedLines, decodings, distances, clashes, three_words, far_words, near_words}
use Rattle.worked.proofs.Tests.{below?, all?, all_of, lists?, same?}
use Rattle.worked.proofs.Tables.{formed?}
use Rattle.worked.proofs.Clashing.{clash_by}
use Rattle.worked.proofs.Spreading.{floor, edges?, rivals?, free?, free_by}
use Rattle.worked.proofs.Bests.{lower?, better?, beaten?, best?}
use Rattle.worked.proofs.Leasts.{last_word, last_words, least}
use Rattle.worked.proofs.Counts.{within, opened_at, waits, waiting_at}
use Rattle.worked.proofs.Answered.{sound?, opened_number, waiting_number, answers?, comes_out?, holds?, holds_by}

-- each example of decoding passes its test
decoded : AllByRecursion Holds decodings
unfolding bits_of largest over weights estimates first_words tally below? all? lists? same? formed? lower? better? beaten? best? last_word last_words least within opened_at waits waiting_at sound? opened_number waiting_number answers? comes_out? holds?
decoded = all_of Holds holds? holds_by decodings refl

-- two sequences at each free distance, and numbers for the places that show that no two are nearer
spread : AllByRecursion Spreads distances
unfolding bits_of largest hamming against pairs edges_from below? all? same? formed? floor edges? rivals? free?
spread = (
  free_by three_words 2 (record { ks = 1 ∷ 0 ∷ []; ls = 0 ∷ 1 ∷ []; marks = (24, 0) ∷ (1, 1) ∷ (25, 1) ∷ (26, 1) ∷ (49, 1) ∷ (50, 1) ∷ (51, 1) ∷ [] }) refl,
  (
    free_by far_words 3 (record { ks = 0 ∷ []; ls = 1 ∷ []; marks = (24, 0) ∷ [] }) refl,
    (free_by near_words 1 (record { ks = 1 ∷ []; ls = 0 ∷ 0 ∷ []; marks = (24, 0) ∷ [] }) refl, tt),
  ),
)

-- the shorter word and a zero make the longer
refused : AllByRecursion Refused clashes
unfolding bits_of largest
refused = (
  clash_by (entered 2 1) 3 2 (lit≤ tt) (lit≤ tt) (lit≤ tt) (inl (false ∷ [], refl)),
  (clash_by (entered 3 2) 2 1 (lit≤ tt) (lit≤ tt) (lit≤ tt) (inr (false ∷ [], refl)), tt),
)

pub worked_lines_lem : WorkedLines
worked_lines_lem =
    record {
      decoded = decoded;
      spread = spread;
      lone = (λ m costs. inl (lit< tt, refl), tt);
      refused = refused;
    }
