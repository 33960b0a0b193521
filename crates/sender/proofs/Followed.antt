-- The run over a text, from one line to the next.
use Rattle.std.proofs.Common.{◌≡◌, ℕ, ◌+◌, ◌<◌, ◌≤◌, Bor, Some, None, List, [], ◌∷◌, ◌++◌, length, get_or, drop, Ok, Err, Option, Result, sym, refl, ap, ◌∙◌, subst, ⊎_elim, append_assoc, append-nil, zero-add, arith}
use Rattle.std.proofs.Math.ListN.{drop_of_length-le}
use Rattle.std.specs.Result.{IfOk, IsErrAnd, MatchResult}
use Rattle.std.specs.List.{enumerate_from}
use Rattle.std.specs.Iterator.{Yields, YieldsFirstRef}
use Rattle.std.specs.Iterator.Adapters.{enumerate_source, enumerate_count, enumerate_steps}
use Rattle.std.specs.declared.iter.Enumerate.{Enumerate}
use Rattle.std.proofs.lemmas.Iterator.{YieldsList}
use Rattle.std.proofs.lemmas.Iterator.Consumers.{YieldsList-from_enumerate, YieldsList-from_first, YieldsList-turn, YieldsList-end}
use Rattle.std.proofs.lemmas.List.{drop_more}
use Rattle.std.proofs.lemmas.List.FromFn.{length-enumerate_from, get_or-enumerate_from}
use Rattle.std.proofs.lemmas.Result.{err_from_is_err_and}
use Rattle.refusal.specs.declared.Refusal.{Refusal}
use Rattle.refusal.specs.declared.Refusal.TheVariants.{Transfer}
use Rattle.refusal.specs.declared.TransferFault.{TransferFault}
use Rattle.refusal.specs.declared.Layer.TheVariants.{Table}
use Rattle.refusal.specs.Refusals.{number, layer}
use Rattle.refusal.specs.Checks.{Check, FirstDue, NoneDue, Judged}
use Rattle.codetable.specs.declared.word.Codeword.{Codeword}
use Rattle.codetable.specs.Codewords.{reweighed}
use Rattle.codetable.specs.Tables.{words, word_checks}
use Rattle.transfer.specs.declared.state.OpenTransfer.{OpenTransfer}
use Rattle.transfer.specs.declared.state.ClosedTransfer.{ClosedTransfer}
use Rattle.transfer.specs.Transfers.{sent_bits}
use Rattle.transfer.specs.Calls.{step_checks, close_checks, Carries, Finished, Delivers}
use Rattle.transfer.proofs.Carried.{same_length}
use Rattle.transfer.proofs.Written.{written_none}
use Rattle.script.specs.declared.Lines.{Lines}
use Rattle.script.specs.Scan.{lines_left}
use Rattle.script.specs.Script.{lines, fields, reading}
use Rattle.sender.specs.declared.Line.{Line}
use Rattle.sender.specs.declared.Report.{Report}
use Rattle.sender.specs.declared.session.Session.{Session}
use Rattle.sender.specs.Effects.{Progress, start, with_word, Does, listed, Runs, ends, goes}
use Rattle.sender.specs.Accounts.{Holds, Closes}

-- The first k lines lead from the start to t, and these lines account for them:
-- whatever the other lines do from there, the whole text does.
abbrev pub Sofar : ℕ → List ℕ → ℕ → Progress → List Line → Type 0
Sofar size text k t items =
    (rs : List Line) (u : Progress) → Runs size (k + 1) t (drop k (lines text)) rs u → Runs size 1 start (lines text) (items ++ rs) u

-- one line more
pub sofar_more : (size : ℕ) (text : List ℕ) (k : ℕ) (s t : Progress) (items : List Line) (l : List ℕ) (o : Option Report) → Sofar size text k s items → k < length (lines text) → l ≡ get_or (lines text) k l → Does size s (reading (fields l)) o t → Sofar size text (k + 1) t (items ++ listed (k + 1) o)
sofar_more size text k s t items l o sofar lt e does rs u runs =
    subst (λ (xs : List Line). Runs size 1 start (lines text) xs u) (sym (append_assoc items (listed (k + 1) o) rs))
    (sofar (listed (k + 1) o ++ rs) u
    (subst (λ (ls : List (List ℕ)). Runs size (k + 1) s ls (listed (k + 1) o ++ rs) u) (sym (drop_more (lines text) k l lt ∙ ap (λ (x : List ℕ). x ∷ drop (k + 1) (lines text)) (sym e)))
    (goes (k + 1) s t u l (drop (k + 1) (lines text)) o rs does runs)))

-- a loop over the lines with their indices
module _ (text : List ℕ) where
  abbrev Steps : Enumerate Lines → Option (ℕ × Bor (List ℕ)) → Enumerate Lines → Type 0
  Steps = enumerate_steps (YieldsFirstRef lines_left)

  -- what begins at `from`, by what the calls in front of the loop ensure
  pub record Begins (from : Enumerate Lines) : Type 0 where
    pub count : enumerate_count from ≡ 0
    pub left : lines_left (enumerate_source from) ≡ lines text

  pub begins : (from en : Enumerate Lines) (it : Lines) → from ≡ en → enumerate_source en ≡ it → enumerate_count en ≡ 0 → lines_left it ≡ lines text → Begins from
  begins from en it same source count left =
      record { count = ap enumerate_count same ∙ count; left = ap lines_left (ap enumerate_source same ∙ source) ∙ left }

  road : (from : Enumerate Lines) → Begins from → YieldsList Steps (λ p. (p.0, p.1.now)) from (enumerate_from 0 (lines text))
  road from h = YieldsList-from_enumerate (YieldsList-from_first (λ l. l.now) lines_left (lines text) h.left) h.count

  -- the line that comes is the one behind those that came
  pub this_line : (from t u : Enumerate Lines) (xs : List (ℕ × Bor (List ℕ))) (r : Option (ℕ × Bor (List ℕ))) → Yields Steps from xs t → Steps t r u → Begins from → (i : ℕ) (l : Bor (List ℕ)) → r ≡ Some (i, l) → (length xs < length (lines text)) × (i ≡ length xs) × (l.now ≡ get_or (lines text) (length xs) l.now)
  this_line from t u xs r yielded next h i l some =
      let turn = YieldsList-turn (road from h) xs t yielded r u (i, l) some next in
      let lt : length xs < length (lines text) = omega (arith, turn.0, length-enumerate_from 0 (lines text)) in
      let e = turn.1 ∙ get_or-enumerate_from 0 (lines text) (length xs) (i, l.now) lt in
      (lt, ap (λ (p : ℕ × List ℕ). p.0) e ∙ zero-add (length xs), ap (λ (p : ℕ × List ℕ). p.1) e)

  -- no line is left
  pub no_line : (from t u : Enumerate Lines) (xs : List (ℕ × Bor (List ℕ))) (r : Option (ℕ × Bor (List ℕ))) → Yields Steps from xs t → Steps t r u → Begins from → r ≡ None → length (lines text) ≤ length xs
  no_line from t u xs r yielded next h none =
      omega (arith, (YieldsList-end (road from h) xs t yielded r u none next).1, length-enumerate_from 0 (lines text))

-- behind the last line
pub sofar_last : (size : ℕ) (text : List ℕ) (k : ℕ) (t : Progress) (items : List Line) → Sofar size text k t items → length (lines text) ≤ k → Runs size 1 start (lines text) items t
sofar_last size text k t items sofar le =
    subst (λ (xs : List Line). Runs size 1 start (lines text) xs t) (append-nil items)
    (sofar [] t (subst (λ (ls : List (List ℕ)). Runs size (k + 1) t ls [] t) (sym (drop_of_length-le (lines text) le)) (ends (k + 1) t)))

-- another weight for the last word
pub reweighed_last : (ws : List Codeword) (w : Codeword) (x : ℕ) → reweighed (ws ++ w ∷ []) (length ws) x ≡ ws ++ record { len = w.len; value = w.value; weight = x } ∷ []
reweighed_last [] w x = refl
reweighed_last (v ∷ ws) w x = ap (λ (l : List Codeword). v ∷ l) (reweighed_last ws w x)

-- what a word does, by what it does to the table
pub entered_progress : (s : Progress) (ws after : List Codeword) (n v : ℕ) (w : Codeword) (r : Result Unit Refusal) → ws ≡ s.words → Judged (word_checks ws n v) (λ f. f) r (λ _. after ≡ ws ++ w ∷ []) (λ f. (layer f ≡ Table) × (after ≡ ws)) → (t : Progress) × Judged (word_checks s.words n v) (λ f. f) r (λ _. t ≡ with_word s w) (λ f. (layer f ≡ Table) × (t ≡ s)) × (after ≡ t.words) × (s.sent ≡ t.sent)
entered_progress s ws after n v w (Ok x) e j =
    (with_word s w, (subst (λ (l : List Codeword). NoneDue (word_checks l n v)) e j.0, refl), j.1 ∙ ap (λ (l : List Codeword). l ++ w ∷ []) e, refl)
entered_progress s ws after n v w (Err f) e j =
    (s, (subst (λ (l : List Codeword). FirstDue (word_checks l n v) (number f)) e j.0, (j.1.0, refl)), j.1.1 ∙ e, refl)

-- what a step checks, by the session and by where the text has come
module _ (s : Progress) (session : Session) (before now : List ℕ) (h : Holds s session before now) where
  pub step_checks_same : (k : ℕ) → step_checks (words session.table) session.transfer.steps session.transfer.bits k (length now) ≡ step_checks s.words (length s.sent) (length (sent_bits s.sent)) k (length before)
  step_checks_same k =
      let o = session.transfer in
      ap (λ (ws : List Codeword). step_checks ws o.steps o.bits k (length now)) h.table
      ∙ ap (λ (n : ℕ). step_checks s.words n o.bits k (length now)) h.sent.steps
      ∙ ap (λ (n : ℕ). step_checks s.words (length s.sent) n k (length now)) h.sent.bits
      ∙ ap (step_checks s.words (length s.sent) (length (sent_bits s.sent)) k) (same_length o before now now s.sent h.sent)

-- what closing checks, by the transfer and by the words sent
close_checks_same : (o : OpenTransfer) (before now : List ℕ) (sent : List Codeword) → Carries o before now sent → close_checks o.bits (length now) ≡ close_checks (length (sent_bits sent)) (length before)
close_checks_same o before now sent h =
    ap (λ (n : ℕ). close_checks n (length now)) h.bits ∙ ap (close_checks (length (sent_bits sent))) (same_length o before now now sent h)

-- a transfer that is too short to be closed has sent nothing
unsent : (o : OpenTransfer) (before now after : List ℕ) (sent : List Codeword) (n : ℕ) → Carries o before now sent → FirstDue (close_checks (length (sent_bits sent)) (length before)) n → after ≡ now → (sent ≡ []) × (after ≡ before)
unsent o before now after [] n h due e = (refl, e ∙ h.buffer ∙ written_none before 0)
unsent o before now after (w ∷ ws) n h due e =
    let room = h.closable (λ none. let z : ◌≡◌ {A = ℕ} 0 1 = cc in omega arith) in
    absurd (⊎_elim (λ d. omega (arith, d.0, room, h.bits)) (λ d. d.1) due)

-- what closing does, where its refusal q hands back the fault alone
module _ (o : OpenTransfer) (before now after : List ℕ) (sent : List Codeword) (h : Carries o before now sent) where
  pub closes : (r : Result ClosedTransfer (OpenTransfer × TransferFault)) (q : Result ClosedTransfer TransferFault) (Gives : OpenTransfer × TransferFault → TransferFault → Type 0) → ((e : OpenTransfer × TransferFault) (f : TransferFault) → Gives e f → f ≡ e.1) → Judged (close_checks o.bits (length now)) (λ e. Transfer e.1) r (λ c. Finished o c now after) (λ e. (e.0 ≡ o) × (after ≡ now)) → IfOk r (λ c. Delivers c before after sent) → MatchResult r (λ c. q ≡ Ok c) (λ e. IsErrAnd q (Gives e)) → Closes before sent q after
  closes (Ok c) q Gives gives told delivers e =
      subst (λ (p : Result ClosedTransfer TransferFault). Closes before sent p after) (sym e) (subst NoneDue (close_checks_same o before now sent h) told.0, delivers)
  closes (Err back) q Gives gives told delivers e =
      let due = subst (λ (cs : List Check). FirstDue cs (number (Transfer back.1))) (close_checks_same o before now sent h) told.0 in
      let p = err_from_is_err_and q e in
      subst (λ (p : Result ClosedTransfer TransferFault). Closes before sent p after) (sym (p.1 ∙ ap Err (gives back p.0 p.2)))
      (due, unsent o before now after sent (number (Transfer back.1)) h due told.1.1)
