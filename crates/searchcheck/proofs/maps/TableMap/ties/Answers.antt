use Rattle.searchcheck.specs.Maps.{ties_lawful}
use Rattle.searchcheck.proofs.maps.TableMap.ties.Goals as goal

pub invariant_of-result : goal.invariant_of-result
invariant_of-result c = record { lawful = ties_lawful }
