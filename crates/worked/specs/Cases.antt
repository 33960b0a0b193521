-- What an example states: of decoding, of a free distance, of a lone word, and of two words that clash.
use Rattle.std.specs.Prelude.{◌≡◌, ℕ, List, [], ◌∷◌, length, ℤ, Some, None, Option}
use Rattle.refusal.specs.Refusals.{clash, no_pair}
use Rattle.refusal.specs.Checks.{FirstDue}
use Rattle.codetable.specs.declared.word.Codeword.{Codeword}
use Rattle.codetable.specs.Tables.{word_checks}
use Rattle.queue.specs.Queues.{Model}
use Rattle.search.specs.Searches.{Counted, IsOpened, IsWaiting}
use Rattle.distance.specs.Distances.{FreeDistance}
use Rattle.distance.specs.Calls.{distance_checks}
use Rattle.decoder.specs.Metrics.{Best, NoneFits, metric, changed}
use Rattle.decoder.specs.Trellis.{trellis}

-- a word of n bits with value v and a weight
abbrev pub weighed : ℕ → ℕ → ℕ → Codeword
weighed n v x = record { len = n; value = v; weight = x }

-- the best list, with its metric, its changed bits, and the numbers of opened and of waiting places
pub record Answer : Type 0 where
  pub its_metric : ℕ
  pub its_changed : ℕ
  pub opened : ℕ
  pub waiting : ℕ
  pub list : List ℕ

-- a table, the values received, a number of words, and what is to come out: an answer, or none where no list fits
pub record Decoding : Type 0 where
  pub table : List Codeword
  pub values : List ℤ
  pub word_count : ℕ
  pub expected : Option Answer

-- the answer holds of the table and the values
pub record Answers (ws : List Codeword) (vs : List ℤ) (word_count : ℕ) (a : Answer) : Type 0 where
  pub best : Best ws vs (length vs) word_count a.list
  pub its_metric : metric ws vs a.list ≡ a.its_metric
  pub its_changed : changed ws vs a.list ≡ a.its_changed
  pub opened : Counted (IsOpened (trellis ws vs word_count) (Some a.its_metric)) (trellis ws vs word_count).size a.opened
  pub waiting : Counted (IsWaiting (trellis ws vs word_count) (Some a.its_metric)) (trellis ws vs word_count).size a.waiting

-- what is to come out does
abbrev pub ComesOut : List Codeword → List ℤ → ℕ → Option Answer → Type 0
ComesOut ws vs word_count None = NoneFits ws (length vs) word_count
ComesOut ws vs word_count (Some a) = Answers ws vs word_count a

-- the example holds
abbrev pub Holds : Decoding → Type 0
Holds d = ComesOut d.table d.values d.word_count d.expected

-- a table and its free distance
pub record Spread : Type 0 where
  pub table : List Codeword
  pub free : ℕ

-- the free distance is that of the table
abbrev pub Spreads : Spread → Type 0
Spreads s = FreeDistance s.table s.free

-- a table of one word has no free distance, whatever queue and costs are lent
abbrev pub Lone : Codeword → Type 0
Lone w = (m : Model) (costs : List ℕ) → FirstDue (distance_checks (w ∷ []) m costs) no_pair

-- a word that a table has, and one that is entered behind it, by its bits and its value
pub record Entry : Type 0 where
  pub there : Codeword
  pub bits : ℕ
  pub value : ℕ

-- the second is refused, since one of the two is the start of the other
abbrev pub Refused : Entry → Type 0
Refused e = FirstDue (word_checks (e.there ∷ []) e.bits e.value) clash
