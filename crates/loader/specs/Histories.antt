-- Lists of commands given to a loader, and what it answers.
use Rattle.std.specs.Prelude.{◌≡◌, ℕ, List, [], ◌∷◌, length, Ok, vec_items, Result}
use Rattle.refusal.specs.declared.Refusal.{Refusal}
use Rattle.queue.specs.Queues.{Model}
use Rattle.loader.specs.declared.Loaded.{Loaded}
use Rattle.loader.specs.declared.commands.Answer.{Answer}
use Rattle.loader.specs.declared.commands.Answer.TheVariants as answer
use Rattle.loader.specs.declared.commands.Command.{Command}
use Rattle.loader.specs.declared.commands.Command.TheVariants as command
use Rattle.loader.specs.Sheets.{Sheet, Works, word, weigh, drop, bit, wipe, load, undo}

-- the answer of a command other than a load, and of a load
abbrev pub Answers : Answer → (Result Unit Refusal → Type 0) → Type 0
Answers (answer.Done r) P = P r
Answers (answer.Loaded r) P = ⊥

abbrev pub AnswersLoad : Answer → (Result Loaded Refusal → Type 0) → Type 0
AnswersLoad (answer.Done r) P = ⊥
AnswersLoad (answer.Loaded r) P = P r

-- a load's count, queue, costs and estimates, after it
abbrev pub AfterLoad : {Q : Type 0} → Command Q → (ℕ → Q → List ℕ → List ℕ → Type 0) → Type 0
AfterLoad (command.Word n v) P = ⊥
AfterLoad (command.Weigh k x) P = ⊥
AfterLoad command.DropWord P = ⊥
AfterLoad (command.Bit v) P = ⊥
AfterLoad command.Wipe P = ⊥
AfterLoad (command.Load n q costs ahead) P = P n q (vec_items costs) (vec_items ahead)
AfterLoad command.Undo P = ⊥

-- A command c turns the sheet s into t with answer a, and is d then: what a load's queue and memory hold may have changed,
-- and their lengths have not.
abbrev pub Acts : {Q : Type 0} → (Q → Model) → Sheet → Command Q → Command Q → Answer → Sheet → Type 0
Acts model s (command.Word n v) d a t = (d ≡ command.Word n v) × Answers a (λ r. Works s (word n v r) t)
Acts model s (command.Weigh k x) d a t = (d ≡ command.Weigh k x) × Answers a (λ r. Works s (weigh k x r) t)
Acts model s command.DropWord d a t = (d ≡ command.DropWord) × Answers a (λ r. Works s (drop r) t)
Acts model s (command.Bit v) d a t = (d ≡ command.Bit v) × Answers a (λ r. Works s (bit v r) t)
Acts model s command.Wipe d a t = (d ≡ command.Wipe) × Answers a (λ r. (r ≡ Ok tt) × Works s wipe t)
Acts model s (command.Load n q costs ahead) d a t =
    AfterLoad d (λ n' q' costs' ahead'. (n' ≡ n) × (length costs' ≡ length (vec_items costs)) × (length ahead' ≡ length (vec_items ahead)) × AnswersLoad a (λ r. Works s (load n (model q) (model q') (vec_items costs) costs' (vec_items ahead) ahead' r) t))
Acts model s command.Undo d a t = (d ≡ command.Undo) × Answers a (λ r. Works s (undo r) t)

-- a list of commands, in order, leads from one sheet to another with these answers
pub data History {Q : Type 0} (model : Q → Model) : Sheet → List (Command Q) → List (Command Q) → List Answer → Sheet → Type 0 where
  ends : (s : Sheet) → History model s [] [] [] s
  goes : (s t u : Sheet) (c d : Command Q) (a : Answer) (cs ds : List (Command Q)) (answers : List Answer) → Acts model s c d a t → History model t cs ds answers u → History model s (c ∷ cs) (d ∷ ds) (a ∷ answers) u
