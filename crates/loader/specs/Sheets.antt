-- The reference sheet: what a loader holds, and what each command does to it, by the rules alone.
use Rattle.std.specs.Prelude.{◌≡◌, ℕ, ◌-◌, List, [], ◌∷◌, ◌++◌, length, take, ℤ, Some, None, Option, Result}
use Rattle.refusal.specs.Checks.{Check, Judged}
use Rattle.refusal.specs.Refusals.{layer, nothing}
use Rattle.refusal.specs.declared.Layer.TheVariants as at
use Rattle.refusal.specs.declared.Refusal.{Refusal}
use Rattle.refusal.specs.declared.Refusal.TheVariants.{Table, Take, Search, Memory, Transfer, Queue, File}
use Rattle.codetable.specs.declared.word.Codeword.{Codeword}
use Rattle.codetable.specs.Codewords.{reweighed}
use Rattle.codetable.specs.Tables.{entered, word_checks, weigh_checks, drop_checks}
use Rattle.softvalues.specs.Received.{value_checks}
use Rattle.queue.specs.Queues.{Model}
use Rattle.search.specs.Searches.{Counted, IsOpened, IsWaiting, Leaves}
use Rattle.distance.specs.Distances.{FreeDistance}
use Rattle.distance.specs.Tails.{tails}
use Rattle.distance.specs.Calls.{distance_checks, Refusals as DistanceRefusals}
use Rattle.decoder.specs.Metrics.{Best, Corrects, metric, changed}
use Rattle.decoder.specs.Trellis.{trellis}
use Rattle.decoder.specs.Decoding.{Remains, Spares, decode_checks}
use Rattle.loader.specs.declared.Loaded.{Loaded}

-- the words, the soft values, the pattern, and the pattern before the last load or none
pub record Sheet : Type 0 where
  pub table : List Codeword
  pub received : List ℤ
  pub pattern : List ℕ
  pub earlier : Option (List ℕ)

-- no words, no soft values, a pattern of length 0, and nothing to undo
abbrev pub blank : Sheet
blank = record { table = []; received = []; pattern = []; earlier = None }

abbrev pub with_table : Sheet → List Codeword → Sheet
with_table s ws = record { table = ws; received = s.received; pattern = s.pattern; earlier = s.earlier }

abbrev pub with_received : Sheet → List ℤ → Sheet
with_received s vs = record { table = s.table; received = vs; pattern = s.pattern; earlier = s.earlier }

abbrev pub with_pattern : Sheet → List ℕ → Option (List ℕ) → Sheet
with_pattern s ks old = record { table = s.table; received = s.received; pattern = ks; earlier = old }

-- An accepted load of so many words, by the table and the soft values before it. The sheet s becomes t.
pub record Loads (s : Sheet) (word_count : ℕ) (d : Loaded) (t : Sheet) : Type 0 where
  -- the best list is stored: it fits, every other one has at least its metric, and loses ties by the rule
  pub best : Best s.table s.received (length s.received) word_count t.pattern
  -- the old pattern becomes the earlier one, and table and soft values stay
  pub stored : t ≡ with_pattern s t.pattern (Some s.pattern)
  pub its_metric : d.metric ≡ metric s.table s.received t.pattern
  pub its_changed : d.changed ≡ changed s.table s.received t.pattern
  -- opened are the trellis places whose least cost and estimate add up to no more than the metric
  pub opened : Counted (IsOpened (trellis s.table s.received word_count) (Some d.metric)) (trellis s.table s.received word_count).size d.opened
  pub waiting : Counted (IsWaiting (trellis s.table s.received word_count) (Some d.metric)) (trellis s.table s.received word_count).size d.waiting
  -- whichever fitting list was sent, it is stored where little enough of it is contradicted
  pub corrects : Corrects s.table s.received word_count t.pattern

-- a command with its arguments, its answer, and of a load what the queue and the memory were and are
pub data Event : Type 0 where
  word : (n v : ℕ) → Result Unit Refusal → Event
  weigh : (k x : ℕ) → Result Unit Refusal → Event
  drop : Result Unit Refusal → Event
  bit : ℤ → Result Unit Refusal → Event
  wipe : Event
  load : (word_count : ℕ) (m q : Model) (costs costs' ahead ahead' : List ℕ) → Result Loaded Refusal → Event
  undo : Result Unit Refusal → Event

-- what holds after a refused load: only that no list fits leaves marks
abbrev pub Spared : Refusal → Type 0 → Type 0 → Type 0
Spared (Table f) untouched left = ⊥
Spared (Take f) untouched left = ⊥
Spared (Search f) untouched left = Spares f untouched left
Spared (Memory f) untouched left = ⊥
Spared (Transfer f) untouched left = ⊥
Spared (Queue f) untouched left = ⊥
Spared (File f) untouched left = ⊥

-- there is nothing to undo
abbrev pub undo_checks : Sheet → List Check
undo_checks s = (s.earlier ≡ None, nothing) ∷ []

-- The command of an event turns the sheet s into t. If a refusal is due, the answer is the first in its order, and the
-- sheet stays; else the command does what the rules say.
abbrev pub Works : Sheet → Event → Sheet → Type 0
Works s (word n v r) t =
    Judged (word_checks s.table n v) (λ f. f) r (λ _. t ≡ with_table s (s.table ++ entered n v ∷ [])) (λ f. (layer f ≡ at.Table) × (t ≡ s))
Works s (weigh k x r) t =
    Judged (weigh_checks s.table k) (λ f. f) r (λ _. t ≡ with_table s (reweighed s.table k x)) (λ f. (layer f ≡ at.Table) × (t ≡ s))
Works s (drop r) t =
    Judged (drop_checks s.table) (λ f. f) r (λ _. t ≡ with_table s (take (length s.table - 1) s.table)) (λ f. (layer f ≡ at.Table) × (t ≡ s))
Works s (bit v r) t =
    Judged (value_checks s.received v) (λ f. f) r (λ _. t ≡ with_received s (s.received ++ v ∷ [])) (λ f. (layer f ≡ at.Take) × (t ≡ s))
Works s wipe t = t ≡ with_received s []
Works s (load n m q costs costs' ahead ahead' r) t =
    Judged (decode_checks s.table s.received n m costs ahead) (λ f. f) r
    (λ d. Loads s n d t × Remains s.table s.received n (Some d.metric) m q costs costs' ahead ahead')
    (λ f. (t ≡ s) × Spared f ((q ≡ m) × (costs' ≡ costs) × (ahead' ≡ ahead)) (Remains s.table s.received n None m q costs costs' ahead ahead'))
Works s (undo r) t =
    Judged (undo_checks s) (λ f. f) r (λ _. (ks : List ℕ) × (s.earlier ≡ Some ks) × (t ≡ with_pattern s ks None)) (λ f. (layer f ≡ at.Memory) × (t ≡ s))

-- The free distance of the table, or why there is none. The sheet stays, and the queue and the costs are left as the search
-- of the tails map leaves them; a refusal leaves them untouched.
abbrev pub Measures : Sheet → Model → Model → List ℕ → List ℕ → Result ℕ Refusal → Type 0
Measures s m q costs costs' r =
    Judged (distance_checks s.table m costs) (λ f. f) r
    (λ d. FreeDistance s.table d × Leaves (tails s.table) (Some d) m q costs costs')
    (λ f. DistanceRefusals f × (q ≡ m) × (costs' ≡ costs))
