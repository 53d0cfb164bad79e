use Rattle.reo_kinds_laws.proofs.Mapping.{valued}
use Rattle.reo_kinds_laws.proofs.laws.maps_give_values.Goals as goal

pub returns : goal.returns
returns c = valued
