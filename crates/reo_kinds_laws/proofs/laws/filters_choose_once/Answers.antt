use Rattle.reo_kinds_laws.proofs.Filtering.{chosen_once}
use Rattle.reo_kinds_laws.proofs.laws.filters_choose_once.Goals as goal

pub returns : goal.returns
returns c = chosen_once
