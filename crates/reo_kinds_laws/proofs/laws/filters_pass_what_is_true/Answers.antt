use Rattle.reo_kinds_laws.proofs.Filtering.{passed}
use Rattle.reo_kinds_laws.proofs.laws.filters_pass_what_is_true.Goals as goal

pub returns : goal.returns
returns c = passed
