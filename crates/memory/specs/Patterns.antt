-- The pattern that the box plays.
use Rattle.std.specs.Prelude.{ℕ, List}
use Rattle.decoder.specs.Lists.{numbers}
use Rattle.memory.specs.declared.playing.Patterns.{Patterns}

-- the numbers of the steps, in order
abbrev pub pattern : Patterns → List ℕ
pattern p = numbers p.current

-- the pattern that the last trial found
abbrev pub put_aside : Patterns → List ℕ
put_aside p = numbers p.saved
