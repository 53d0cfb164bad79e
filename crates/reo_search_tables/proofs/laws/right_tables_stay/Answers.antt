use Rattle.reo_search_tables.proofs.Staying.{right_tables_stay}
use Rattle.reo_search_tables.proofs.laws.right_tables_stay.Goals as goal

pub returns : goal.returns
returns c = right_tables_stay
