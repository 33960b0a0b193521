-- A word that is refused since it clashes with the only word of a table.
use Rattle.std.proofs.Common.{ℕ, ◌≤◌, [], ◌∷◌, refl, inl, inr, ⊎_elim, arith}
use Rattle.refusal.specs.Refusals.{clash}
use Rattle.refusal.specs.Checks.{FirstDue}
use Rattle.codetable.specs.declared.word.Codeword.{Codeword}
use Rattle.codetable.specs.Codewords.{largest, most_bits, Conflict}
use Rattle.codetable.specs.Tables.{entered, word_checks}

pub clash_by : (w : Codeword) (n v : ℕ) → 1 ≤ n → n ≤ most_bits → v ≤ largest n → Conflict w (entered n v) → FirstDue (word_checks (w ∷ []) n v) clash
clash_by w n v some few low conflict =
    inr (λ bad. ⊎_elim (λ h. omega arith) (λ h. omega arith) bad, inr (λ high. omega arith, inr (λ all. omega arith, inl ((0, w, refl, conflict), refl))))
