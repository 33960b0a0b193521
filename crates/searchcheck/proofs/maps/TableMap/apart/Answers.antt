use Rattle.searchcheck.specs.Maps.{apart_lawful}
use Rattle.searchcheck.proofs.maps.TableMap.apart.Goals as goal

pub invariant_of-result : goal.invariant_of-result
invariant_of-result c = record { lawful = apart_lawful }
