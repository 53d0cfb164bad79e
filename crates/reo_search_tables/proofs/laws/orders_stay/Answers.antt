use Rattle.reo_search_tables.proofs.Sorted.{orders_stay}
use Rattle.reo_search_tables.proofs.laws.orders_stay.Goals as goal

pub returns : goal.returns
returns c = orders_stay
