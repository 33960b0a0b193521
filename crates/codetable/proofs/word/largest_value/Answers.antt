use Rattle.std.proofs.Common.{◌-◌, arith}
use Rattle.std.proofs.lemmas.List.FromFn.{get_or-map-range_with_len}
use Rattle.codetable.specs.Codewords.{largest, most_bits}
use Rattle.codetable.proofs.word.largest_value.Goals as goal

-- the list is `largest` at 1 to 24
pub returns : goal.returns
unfolding largest
returns c = record { value = get_or-map-range_with_len largest 1 most_bits (c.args.len - 1) c.args.len 0 (omega arith) (omega arith) }
