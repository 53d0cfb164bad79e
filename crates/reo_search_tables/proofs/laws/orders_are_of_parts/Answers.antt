use Rattle.reo_search_tables.proofs.Sorted.{orders_are_of_parts}
use Rattle.reo_search_tables.proofs.laws.orders_are_of_parts.Goals as goal

pub returns : goal.returns
returns c = orders_are_of_parts
