-- The sheet that a loader holds.
use Rattle.std.specs.Option.{option_map}
use Rattle.codetable.specs.Tables.{words}
use Rattle.softvalues.specs.Received.{values}
use Rattle.decoder.specs.Lists.{numbers}
use Rattle.memory.specs.Patterns.{pattern}
use Rattle.loader.specs.declared.Loader.{Loader}
use Rattle.loader.specs.Sheets.{Sheet}

-- its table, its take, its pattern and the earlier one
abbrev pub sheet : Loader → Sheet
sheet l =
    record {
      table = words l.table;
      received = values l.received;
      pattern = pattern l.patterns;
      earlier = option_map numbers l.earlier;
    }
