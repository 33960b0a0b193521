-- What the row of a strip means.
use Rattle.std.specs.Prelude.{None, slice_index_or}
use Rattle.queue.specs.declared.strip.Keys.{Keys}
use Rattle.queue.specs.Queues.{Model, places}

-- the places and keys of a strip
abbrev pub strip_model : Keys → Model
strip_model s = record { size = places; key = λ p. slice_index_or s.at p None }
