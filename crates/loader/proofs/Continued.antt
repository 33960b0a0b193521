-- One command more.
use Rattle.std.proofs.Common.{◌≡◌, ℕ, ◌+◌, ◌<◌, List, [], ◌∷◌, ◌++◌, length, get_or, take, drop, set, sym, ap, ◌∙◌, subst, arith}
use Rattle.std.proofs.lemmas.List.{take_more, take_more_set, drop-set-lt, drop-drop, get_or-drop}
use Rattle.queue.specs.Queues.{Model}
use Rattle.loader.specs.declared.commands.Answer.{Answer}
use Rattle.loader.specs.declared.commands.Command.{Command}
use Rattle.loader.specs.Sheets.{Sheet}
use Rattle.loader.specs.Histories.{History, ends, goes, Acts}

pub history_push : {Q : Type 0} (model : Q → Model) {s t : Sheet} {cs ds : List (Command Q)} {answers : List Answer} → History model s cs ds answers t → (u : Sheet) (c d : Command Q) (a : Answer) → Acts model t c d a u → History model s (cs ++ c ∷ []) (ds ++ d ∷ []) (answers ++ a ∷ []) u
history_push model (ends s) u c d a acts = goes s u u c d a [] [] [] acts (ends u)
history_push model (goes s t v b e x cs ds answers first rest) u c d a acts =
    goes s t u b e x (cs ++ c ∷ []) (ds ++ d ∷ []) (answers ++ a ∷ []) first (history_push model rest u c d a acts)

-- The first i commands are done: they were those of `before`, are those of `now`, and the others are as they were.
pub record Sofar {Q : Type 0} (model : Q → Model) (s : Sheet) (before now : List (Command Q)) (answers : List Answer) (i : ℕ) (t : Sheet) : Type 0 where
  pub done : History model s (take i before) (take i now) answers t
  pub rest : drop i now ≡ drop i before

pub sofar_more : {Q : Type 0} (model : Q → Model) (s t u : Sheet) (before now : List (Command Q)) (answers : List Answer) (i : ℕ) (c d : Command Q) (a : Answer) → Sofar model s before now answers i t → i < length before → i < length now → c ≡ get_or now i c → Acts model t c d a u → Sofar model s before (set now i d) (answers ++ a ∷ []) (i + 1) u
sofar_more model s t u before now answers i c d a sofar in-before in-now is acts =
    let here : i ≡ i + 0 = omega arith in
    let same : get_or before i c ≡ c =
    ap (λ (n : ℕ). get_or before n c) here ∙ sym (get_or-drop i before 0 c) ∙ ap (λ (l : List (Command _)). get_or l 0 c) (sym sofar.rest) ∙ get_or-drop i now 0 c ∙ ap (λ (n : ℕ). get_or now n c) (sym here) ∙ sym is in
    let first = take_more before i c in-before ∙ ap (λ (x : Command _). take i before ++ x ∷ []) same in
    let second = take_more_set now i d in-now in
    record {
      done = subst (λ (l : List (Command _)). History model s l (take (i + 1) (set now i d)) (answers ++ a ∷ []) u) (sym first) (subst (λ (l : List (Command _)). History model s (take i before ++ c ∷ []) l (answers ++ a ∷ []) u) (sym second) (history_push model sofar.done u c d a acts));
      rest = drop-set-lt (i + 1) now i d (omega arith) ∙ sym (drop-drop 1 i now) ∙ ap (drop 1) sofar.rest ∙ drop-drop 1 i before;
    }
