-- How what a load answers reads.
use Rattle.std.specs.Prelude.{ℕ, List, ◌++◌, codes, decimal}
use Rattle.loader.specs.declared.Loaded.{Loaded}

-- its numbers in decimal: the metric, the changed bits, the opened places and the waiting ones
abbrev pub loaded_text : Loaded → List ℕ
loaded_text d = decimal d.metric ++ codes " " ++ decimal d.changed ++ codes " " ++ decimal d.opened ++ codes " " ++ decimal d.waiting
