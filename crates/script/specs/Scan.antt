-- What a scan tests each byte for, and what is left of a text that is read line by line, and of a line that is read field by field.
use Rattle.std.specs.Prelude.{◌≡◌, ℕ, Bool, List, [], ◌∷◌, Some, None, Ok, Err, Option, Result}
use denote.Ref.{Bor}
use Rattle.std.specs.Fn.{CalledAt, Mut}
use Rattle.script.specs.declared.Lines.{Lines}
use Rattle.script.specs.declared.Fields.{Fields}
use Rattle.script.specs.declared.LineFault.{LineFault}
use Rattle.script.specs.declared.LineFault.TheVariants.{Extra}
use Rattle.script.specs.Script.{lines, fields}

-- each call of a closure f leaves f as it is, and tells whether the byte passes
abbrev pub Tests : {F : Type 0} → Mut F (Bor ℕ × Unit {0}) Bool → F → (ℕ → Bool) → Type 0
Tests {F} g f passes = (byte : ℕ) (answer : Bool) (after : F) → CalledAt g f byte answer after → (after ≡ f) × (answer ≡ passes byte)

-- the lines of what is left of a text, where something is left
abbrev pub rest_lines : Option (Bor (List ℕ)) → List (List ℕ)
rest_lines None = []
rest_lines (Some text) = lines text.now

abbrev pub lines_left : Lines → List (List ℕ)
lines_left it = rest_lines it.rest

abbrev pub fields_left : Fields → List (List ℕ)
fields_left it = fields it.line.now

-- no field is left
abbrev pub at_end : List (List ℕ) → Result Unit LineFault
at_end [] = Ok tt
at_end (x ∷ xs) = Err Extra
