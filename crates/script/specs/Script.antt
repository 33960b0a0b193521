-- What a text says: its lines, the fields of a line, and what the fields enter.
use Rattle.std.specs.Prelude.{ℕ, ◌%◌, ◌^◌, Bool, true, false, cond, ◌||◌, List, [], ◌∷◌, length, Some, None, Ok, Err, codes, filter, Option, Result, ◌==◌, nat_le}
use Rattle.std.specs.List.{slice_split, list_all}
use Rattle.std.specs.Char.{is_ascii_digit}
use Rattle.std.specs.Str.{bytes_eq}
use Rattle.std.specs.Str.Parse.{digits_value}
use Rattle.script.specs.declared.Entry.{Entry}
use Rattle.script.specs.declared.Entry.TheVariants.{Word, Step}
use Rattle.script.specs.declared.LineFault.{LineFault}
use Rattle.script.specs.declared.LineFault.TheVariants.{Unknown, Missing, Extra, NotBits, NotNumber, TooLarge}

abbrev pub newline : ℕ → Bool
newline b = b == 10

abbrev pub lines : List ℕ → List (List ℕ)
lines bs = slice_split newline bs

-- a space, a tab or a carriage return
abbrev pub blank : ℕ → Bool
blank b = b == 32 || (b == 9 || b == 13)

abbrev pub filled : List ℕ → Bool
filled [] = false
filled (b ∷ bs) = true

-- the parts between blanks that are not empty
abbrev pub fields : List ℕ → List (List ℕ)
fields bs = filter filled (slice_split blank bs)

abbrev pub bit : ℕ → Bool
bit b = b == 48 || b == 49

-- the value of bits, modulo 2 ^ 32
abbrev pub bits : List ℕ → Result ℕ LineFault
bits ds = cond (list_all bit ds) (Ok (digits_value 2 ds % 2 ^ 32)) (Err NotBits)

-- a decimal number of at most `most`
abbrev pub number : ℕ → List ℕ → Result ℕ LineFault
number most ds =
    cond (list_all is_ascii_digit ds) (cond (nat_le (digits_value 10 ds) most) (Ok (digits_value 10 ds)) (Err TooLarge)) (Err NotNumber)

-- goes on with what was read, or stays at the first fault
abbrev pub then : {X Y : Type 0} → Result X LineFault → (X → Result Y LineFault) → Result Y LineFault
then (Ok x) f = f x
then (Err e) f = Err e

-- what the fields after `word` enter
abbrev pub word_entry : List (List ℕ) → Result Entry LineFault
word_entry [] = Err Missing
word_entry (bs ∷ []) = then (bits bs) (λ v. Ok (Word (length bs) v None))
word_entry (bs ∷ ws ∷ []) = then (bits bs) (λ v. then (number 65535 ws) (λ w. Ok (Word (length bs) v (Some w))))
word_entry (bs ∷ ws ∷ x ∷ xs) = Err Extra

-- what the fields after `step` enter
abbrev pub step_entry : List (List ℕ) → Result Entry LineFault
step_entry [] = Err Missing
step_entry (ns ∷ []) = then (number 4294967295 ns) (λ n. Ok (Step n))
step_entry (ns ∷ x ∷ xs) = Err Extra

abbrev pub entry_of : List ℕ → List (List ℕ) → Result Entry LineFault
entry_of keyword fs =
    cond (bytes_eq keyword (codes "word")) (word_entry fs)
    (cond (bytes_eq keyword (codes "step")) (step_entry fs) (Err Unknown))

-- a field that begins with `#`
abbrev pub comment : List ℕ → Bool
comment [] = false
comment (b ∷ bs) = b == 35

-- what the fields of a line say: nothing, an entry, or neither
abbrev pub reading : List (List ℕ) → Result (Option Entry) LineFault
reading [] = Ok None
reading (f ∷ fs) = cond (comment f) (Ok None) (then (entry_of f fs) (λ e. Ok (Some e)))

abbrev pub reason : LineFault → List ℕ
reason Unknown = codes "neither word nor step"
reason Missing = codes "a field is missing"
reason Extra = codes "a field too many"
reason NotBits = codes "bits other than 0 and 1"
reason NotNumber = codes "not a decimal number"
reason TooLarge = codes "a number too large"
