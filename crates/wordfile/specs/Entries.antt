-- The words of a file and what they say: 32 bits each, of which the top three are the kind.
use Rattle.std.specs.Prelude.{◌≡◌, ℕ, suc, ◌+◌, ◌-◌, ◌*◌, ◌^◌, ◌<◌, List, [], ◌∷◌, ℤ, pos, negsuc, Ok, Result, codes}
use Rattle.refusal.specs.Refusals.{bad_form}
use Rattle.refusal.specs.Checks.{Check, Judged}
use Rattle.refusal.specs.declared.FileFault.{FileFault}
use Rattle.refusal.specs.declared.Refusal.TheVariants.{File}
use Rattle.wordfile.specs.declared.Kind.{Kind}
use Rattle.wordfile.specs.declared.Kind.TheVariants as kind
use Rattle.wordfile.specs.declared.Entry.{Entry}
use Rattle.wordfile.specs.declared.Entry.TheVariants.{End, Word, Weigh, Drop, Bit, Wipe, Load, Undo}

-- what the top three bits hold
abbrev pub kind_number : Kind → ℕ
kind_number kind.End = 0
kind_number kind.Word = 1
kind_number kind.Weigh = 2
kind_number kind.Drop = 3
kind_number kind.Bit = 4
kind_number kind.Wipe = 5
kind_number kind.Load = 6
kind_number kind.Undo = 7

abbrev pub kind_name : Kind → List ℕ
kind_name kind.End = codes "END"
kind_name kind.Word = codes "WORD"
kind_name kind.Weigh = codes "WEIGH"
kind_name kind.Drop = codes "DROP"
kind_name kind.Bit = codes "BIT"
kind_name kind.Wipe = codes "WIPE"
kind_name kind.Load = codes "LOAD"
kind_name kind.Undo = codes "UNDO"

abbrev pub kind_of_entry : Entry → Kind
kind_of_entry End = kind.End
kind_of_entry (Word n v) = kind.Word
kind_of_entry (Weigh k w) = kind.Weigh
kind_of_entry Drop = kind.Drop
kind_of_entry (Bit v) = kind.Bit
kind_of_entry Wipe = kind.Wipe
kind_of_entry (Load n) = kind.Load
kind_of_entry Undo = kind.Undo

-- a number from −128 to 127, in the 8 bits of two's complement
abbrev pub twos_complement : ℤ → ℕ
twos_complement (pos n) = n
twos_complement (negsuc n) = 2 ^ 8 - suc n

-- what the other 29 bits hold
abbrev pub entry_bits : Entry → ℕ
entry_bits End = 0
entry_bits (Word n v) = n * 2 ^ 24 + v
entry_bits (Weigh k w) = k * 2 ^ 24 + w
entry_bits Drop = 0
entry_bits (Bit v) = twos_complement v
entry_bits Wipe = 0
entry_bits (Load n) = n
entry_bits Undo = 0

-- the word that an entry stands for
abbrev pub entry_word : Entry → ℕ
entry_word e = kind_number (kind_of_entry e) * 2 ^ 29 + entry_bits e

-- from −128 to 127
abbrev pub InByte : ℤ → Type 0
InByte (pos n) = n < 2 ^ 7
InByte (negsuc n) = n < 2 ^ 7

-- each part fits the bits that the word has for it
abbrev pub Formed : Entry → Type 0
Formed End = Unit {0}
Formed (Word n v) = (n < 2 ^ 5) × (v < 2 ^ 24)
Formed (Weigh k w) = (k < 2 ^ 5) × (w < 2 ^ 16)
Formed Drop = Unit {0}
Formed (Bit v) = InByte v
Formed Wipe = Unit {0}
Formed (Load n) = n < 2 ^ 6
Formed Undo = Unit {0}

-- a word says an entry of good form: it is the word that the entry stands for
pub record Says (word : ℕ) (e : Entry) : Type 0 where
  pub formed : Formed e
  pub stands : entry_word e ≡ word

-- what is checked before a word is read: it is refused if it says nothing, which is so if it has a one where a zero is due
abbrev pub form_checks : ℕ → List Check
form_checks word = ((e : Entry) → Says word e → ⊥, bad_form) ∷ []

-- What reading a word answers. `unique`: the entry that a word says is the only one that it says.
pub record Reads (word : ℕ) (r : Result Entry FileFault) : Type 0 where
  pub answer : Judged (form_checks word) File r (λ e. Says word e) (λ _. Unit {0})
  pub unique : (e : Entry) → Says word e → r ≡ Ok e

-- the bits that are zero in every word of a kind
abbrev pub zero_bits : Kind → ℕ
zero_bits kind.End = 2 ^ 29 - 1
zero_bits kind.Word = 0
zero_bits kind.Weigh = 2 ^ 24 - 2 ^ 16
zero_bits kind.Drop = 2 ^ 29 - 1
zero_bits kind.Bit = 2 ^ 29 - 2 ^ 8
zero_bits kind.Wipe = 2 ^ 29 - 1
zero_bits kind.Load = 2 ^ 29 - 2 ^ 6
zero_bits kind.Undo = 2 ^ 29 - 1
