use Rattle.reo_search_tables.proofs.Readied.{ready_tables_are_right}
use Rattle.reo_search_tables.proofs.laws.ready_tables_are_right.Goals as goal

pub returns : goal.returns
returns c = ready_tables_are_right
