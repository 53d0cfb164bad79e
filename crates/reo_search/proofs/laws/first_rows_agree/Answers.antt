use Rattle.reo_search.proofs.Isolating.{first_rows_agree}
use Rattle.reo_search.proofs.laws.first_rows_agree.Goals as goal

pub returns : goal.returns
returns c = first_rows_agree
