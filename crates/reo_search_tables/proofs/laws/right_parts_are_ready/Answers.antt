use Rattle.reo_search_tables.proofs.Readied.{right_parts_are_ready}
use Rattle.reo_search_tables.proofs.laws.right_parts_are_ready.Goals as goal

pub returns : goal.returns
returns c = right_parts_are_ready
