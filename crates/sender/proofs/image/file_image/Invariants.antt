use Rattle.std.proofs.Common.{◌≡◌, take, vec_items}
use Rattle.codetable.specs.Tables.{words}
use Rattle.transfer.specs.Format.{bytes_of}
use Rattle.sender.specs.Images.{table_words}
use Rattle.sender.proofs.image.file_image.Given as goal

-- the words so far are entered
abbrev pub invariant-loop-k : goal.invariant-loop-k
invariant-loop-k l = (l.word-items ≡ words l.table) × (vec_items l.image ≡ bytes_of (table_words 0 (take l.k (words l.table))))
