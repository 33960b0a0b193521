use Rattle.std.proofs.Common.{◌≡◌, ◌%◌, ◌^◌, true, take}
use Rattle.std.specs.List.{list_all}
use Rattle.std.specs.Str.Parse.{digits_value}
use Rattle.script.specs.Script.{bit}
use Rattle.script.proofs.parse_bits.Given as goal

abbrev pub invariant-loop-byte : goal.invariant-loop-byte
invariant-loop-byte l =
    (list_all bit (take l.byte-index l.field) ≡ true) × (l.value ≡ digits_value 2 (take l.byte-index l.field) % 2 ^ 32)
