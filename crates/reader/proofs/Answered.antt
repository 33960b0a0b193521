-- The answers of a word, from those of the loader.
use Rattle.std.proofs.Common.{◌≡◌, ℕ, true, List, is_err, IsErrAnd, IsOkAnd, MatchResult, Ok, Err, Result, sym, refl, inr, subst}
use Rattle.refusal.specs.declared.FileFault.{FileFault}
use Rattle.refusal.specs.declared.Refusal.{Refusal}
use Rattle.loader.specs.declared.Loaded.{Loaded}
use Rattle.loader.specs.Sheets.{Sheet}
use Rattle.wordfile.specs.declared.Entry.{Entry}
use Rattle.wordfile.specs.Entries.{Reads, Says}
use Rattle.reader.specs.declared.Outcome.{Outcome}
use Rattle.reader.specs.declared.Outcome.TheVariants.{Distance}
use Rattle.reader.specs.declared.PlacedRefusal.{PlacedRefusal}
use Rattle.reader.specs.Files.{Lent, Plain, OfLoad, OfDistance, Obeys, Follows, as_outcome}

plain_as : (a : Result Unit Refusal) (P : Result Unit Refusal → Type 0) → P a → Plain (as_outcome a) P
plain_as (Ok x) P p = p
plain_as (Err f) P p = p

-- a command that answers nothing more
pub plain_of : (r : Result Outcome Refusal) (a : Result Unit Refusal) (P : Result Unit Refusal → Type 0) → r ≡ as_outcome a → P a → Plain r P
plain_of r a P is p = subst (λ (x : Result Outcome Refusal). Plain x P) (sym is) (plain_as a P p)

-- a free distance
pub distance_of : (r : Result Outcome Refusal) (a : Result ℕ Refusal) (P : Result ℕ Refusal → Type 0) → MatchResult a (λ n. IsOkAnd r (λ o. o ≡ Distance n)) (λ f. r ≡ Err f) → P a → OfDistance r P
distance_of (Ok o) (Ok n) P is p = subst (λ (x : Outcome). OfDistance (Ok x) P) (sym is) p
distance_of (Err f) (Ok n) P is p = absurd is
distance_of r (Err f) P is p = subst (λ (x : Result Outcome Refusal). OfDistance x P) (sym is) p

-- a load that is refused
pub refused_load : (r : Result Outcome Refusal) (f : Refusal) (ks : List ℕ) (P : Result Loaded Refusal → Type 0) → is_err r ≡ true → IsErrAnd r (λ e. e ≡ f) → P (Err f) → OfLoad r ks P
refused_load (Ok o) f ks P err is p = absurd is
refused_load (Err e) f ks P err is p = subst (λ (x : Refusal). P (Err x)) (sym is) p

-- an entry that is read, with its refusal at another type
pub said_of : (w : ℕ) (e : Entry) (r : Result Entry FileFault) (r' : Result Entry PlacedRefusal) (Q : FileFault → PlacedRefusal → Type 0) → Reads w r → r' ≡ Ok e → MatchResult r (λ x. r' ≡ Ok x) (λ f. IsErrAnd r' (Q f)) → Says w e
said_of w e (Ok x) r' Q reads was is = let same : x ≡ e = cc in subst (Says w) same reads.answer.1
said_of w e (Err f) (Ok x) Q reads was is = absurd is
said_of w e (Err f) (Err p) Q reads was is = cc

-- what an entry does, with the refusal at a place
pub placed : (place w : ℕ) (s t : Sheet) (l : Lent) (e : Entry) (r : Result Outcome Refusal) (r' : Result Outcome PlacedRefusal) (Q : Refusal → PlacedRefusal → Type 0) → ((f : Refusal) (p : PlacedRefusal) → Q f p → p ≡ record { place = place; refusal = f }) → Says w e → Obeys e s l r t → MatchResult r (λ o. r' ≡ Ok o) (λ f. IsErrAnd r' (Q f)) → Follows place w s l r' t
placed place w s t l e (Ok o) r' Q at says obeys is = subst (λ (x : Result Outcome PlacedRefusal). Follows place w s l x t) (sym is) (e, says, obeys)
placed place w s t l e (Err f) (Ok o) Q at says obeys is = absurd is
placed place w s t l e (Err f) (Err p) Q at says obeys is =
    subst (λ (x : PlacedRefusal). Follows place w s l (Err x) t) (sym (at f p is)) (refl, inr (e, says, obeys))
