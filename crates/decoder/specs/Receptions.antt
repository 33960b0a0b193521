-- What a decoder is given, as lists.
use Rattle.std.specs.Prelude.{List, ℤ}
use Rattle.codetable.specs.declared.word.Codeword.{Codeword}
use Rattle.codetable.specs.Tables.{words}
use Rattle.softvalues.specs.Received.{values}
use Rattle.decoder.specs.declared.reception.Reception.{Reception}

-- the words of the table
abbrev pub code : Reception → List Codeword
code r = words r.table.now

-- the values that were received
abbrev pub observed : Reception → List ℤ
observed r = values r.received.now
