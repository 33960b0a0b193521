-- What each word of a file does, and what is answered.
use Rattle.std.specs.Prelude.{◌≡◌, ℕ, ◌⊎◌, List, Ok, Err, Result}
use Rattle.refusal.specs.declared.FileFault.TheVariants.{BadForm}
use Rattle.refusal.specs.declared.Refusal.{Refusal}
use Rattle.refusal.specs.declared.Refusal.TheVariants.{File}
use Rattle.queue.specs.Queues.{Model}
use Rattle.decoder.specs.Lists.{numbers}
use Rattle.loader.specs.declared.Loaded.{Loaded as LoadAnswer}
use Rattle.loader.specs.Sheets.{Sheet, Works, Measures, word, weigh, drop, bit, wipe, load, undo}
use Rattle.wordfile.specs.declared.Entry.{Entry}
use Rattle.wordfile.specs.declared.Entry.TheVariants as entry
use Rattle.wordfile.specs.Entries.{Says}
use Rattle.reader.specs.declared.Outcome.{Outcome}
use Rattle.reader.specs.declared.Outcome.TheVariants.{Done, Loaded, Distance}
use Rattle.reader.specs.declared.PlacedRefusal.{PlacedRefusal}

-- the queue, the costs and the estimates before and after a word
pub record Lent : Type 0 where
  pub m : Model
  pub q : Model
  pub costs : List ℕ
  pub costs' : List ℕ
  pub ahead : List ℕ
  pub ahead' : List ℕ

abbrev pub lent : Model → Model → List ℕ → List ℕ → List ℕ → List ℕ → Lent
lent m q costs costs' ahead ahead' = record { m = m; q = q; costs = costs; costs' = costs'; ahead = ahead; ahead' = ahead' }

-- they are as before
abbrev pub Untouched : Lent → Type 0
Untouched l = (l.q ≡ l.m) × (l.costs' ≡ l.costs) × (l.ahead' ≡ l.ahead)

-- the answer of a command that answers nothing more, of a load with the steps that it stores, and of a free distance
abbrev pub Plain : Result Outcome Refusal → (Result Unit Refusal → Type 0) → Type 0
Plain (Ok Done) P = P (Ok tt)
Plain (Ok (Loaded d l)) P = ⊥
Plain (Ok (Distance n)) P = ⊥
Plain (Err f) P = P (Err f)

abbrev pub as_outcome : Result Unit Refusal → Result Outcome Refusal
as_outcome (Ok x) = Ok Done
as_outcome (Err f) = Err f

abbrev pub OfLoad : Result Outcome Refusal → List ℕ → (Result LoadAnswer Refusal → Type 0) → Type 0
OfLoad (Ok Done) ks P = ⊥
OfLoad (Ok (Loaded d l)) ks P = (numbers l ≡ ks) × P (Ok d)
OfLoad (Ok (Distance n)) ks P = ⊥
OfLoad (Err f) ks P = P (Err f)

abbrev pub OfDistance : Result Outcome Refusal → (Result ℕ Refusal → Type 0) → Type 0
OfDistance (Ok Done) P = ⊥
OfDistance (Ok (Loaded d l)) P = ⊥
OfDistance (Ok (Distance n)) P = P (Ok n)
OfDistance (Err f) P = P (Err f)

-- an entry turns the sheet s into t, with an answer
abbrev pub Obeys : Entry → Sheet → Lent → Result Outcome Refusal → Sheet → Type 0
Obeys entry.End s l r t = (t ≡ s) × (l.ahead' ≡ l.ahead) × OfDistance r (λ x. Measures s l.m l.q l.costs l.costs' x)
Obeys (entry.Word n v) s l r t = Untouched l × Plain r (λ x. Works s (word n v x) t)
Obeys (entry.Weigh k x) s l r t = Untouched l × Plain r (λ y. Works s (weigh k x y) t)
Obeys entry.Drop s l r t = Untouched l × Plain r (λ x. Works s (drop x) t)
Obeys (entry.Bit v) s l r t = Untouched l × Plain r (λ x. Works s (bit v x) t)
Obeys entry.Wipe s l r t = Untouched l × (r ≡ Ok Done) × Works s wipe t
Obeys (entry.Load n) s l r t = OfLoad r t.pattern (λ x. Works s (load n l.m l.q l.costs l.costs' l.ahead l.ahead' x) t)
Obeys entry.Undo s l r t = Untouched l × Plain r (λ x. Works s (undo x) t)

-- A word turns the sheet s into t. One that says nothing is of bad form, and nothing changes; any other does what it says.
-- A refusal has the word's place.
abbrev pub Follows : ℕ → ℕ → Sheet → Lent → Result Outcome PlacedRefusal → Sheet → Type 0
Follows place w s l (Ok o) t = (e : Entry) × Says w e × Obeys e s l (Ok o) t
Follows place w s l (Err p) t =
    (p.place ≡ place) × ((((e : Entry) → Says w e → ⊥) × (p.refusal ≡ File BadForm) × (t ≡ s) × Untouched l) ⊎ ((e : Entry) × Says w e × Obeys e s l (Err p.refusal) t))
