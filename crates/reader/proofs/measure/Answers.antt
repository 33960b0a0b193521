use Rattle.reader.proofs.Answered.{distance_of}
use Rattle.reader.proofs.measure.Goals as goal

pub returns : goal.returns
returns g c =
    record { measures = distance_of c.map.result c.free_distance.result _ c.map.ensures.cases c.free_distance.ensures.answer }
