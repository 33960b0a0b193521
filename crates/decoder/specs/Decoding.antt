-- What the decoder checks, answers and leaves.
use Rattle.std.specs.Prelude.{◌≡◌, ℕ, ◌+◌, ◌<◌, ◌⊎◌, List, [], ◌∷◌, length, ℤ, Some, Option}
use Rattle.refusal.specs.Refusals.{bad_count, short, no_fit}
use Rattle.refusal.specs.Checks.{Check}
use Rattle.refusal.specs.declared.SearchFault.{SearchFault}
use Rattle.refusal.specs.declared.SearchFault.TheVariants.{BadCount, Short, NoFit}
use Rattle.codetable.specs.declared.word.Codeword.{Codeword}
use Rattle.queue.specs.Queues.{Model}
use Rattle.search.specs.Searches.{Counted, IsOpened, IsWaiting, Leaves}
use Rattle.decoder.specs.declared.Decoded.{Decoded}
use Rattle.decoder.specs.Metrics.{Best, NoneFits, Corrects, metric, changed, most_list}
use Rattle.decoder.specs.Estimates.{Ahead}
use Rattle.decoder.specs.Trellis.{trellis}
use Rattle.decoder.specs.Lists.{numbers}

-- What is checked, in this order: the number of words; the room in the queue, the costs and the estimates; and that a
-- list fits.
abbrev pub decode_checks : List Codeword → List ℤ → ℕ → Model → List ℕ → List ℕ → List Check
decode_checks ws vs word_count m costs ahead =
    ((word_count < 1) ⊎ (most_list < word_count), bad_count) ∷ ((m.size < (trellis ws vs word_count).size) ⊎ ((length costs < (trellis ws vs word_count).size) ⊎ (length ahead < length vs + 1)), short) ∷ (NoneFits ws (length vs) word_count, no_fit) ∷ []

-- the answer: the best list with its metric and its changed bits, and the numbers of opened and of waiting places
pub record Decodes (ws : List Codeword) (vs : List ℤ) (word_count : ℕ) (d : Decoded) : Type 0 where
  pub best : Best ws vs (length vs) word_count (numbers d.list)
  pub its_metric : d.metric ≡ metric ws vs (numbers d.list)
  pub its_changed : d.changed ≡ changed ws vs (numbers d.list)
  pub opened : Counted (IsOpened (trellis ws vs word_count) (Some d.metric)) (trellis ws vs word_count).size d.opened
  pub waiting : Counted (IsWaiting (trellis ws vs word_count) (Some d.metric)) (trellis ws vs word_count).size d.waiting
  -- whichever list was sent, it is the answer where little enough of it is contradicted
  pub corrects : Corrects ws vs word_count (numbers d.list)

-- what is left in the queue, in the costs and in the estimates
pub record Remains (ws : List Codeword) (vs : List ℤ) (word_count : ℕ) (limit : Option ℕ) (m q : Model) (costs costs' ahead ahead' : List ℕ) : Type 0 where
  pub searched : Leaves (trellis ws vs word_count) limit m q costs costs'
  pub estimated : Ahead ws vs ahead ahead'

-- what holds after a refusal: only that no list fits leaves marks
abbrev pub Spares : SearchFault → Type 0 → Type 0 → Type 0
Spares BadCount untouched left = untouched
Spares Short untouched left = untouched
Spares NoFit untouched left = left
