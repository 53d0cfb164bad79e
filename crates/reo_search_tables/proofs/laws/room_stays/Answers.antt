use Rattle.reo_search_tables.proofs.Staying.{room_stays}
use Rattle.reo_search_tables.proofs.laws.room_stays.Goals as goal

pub returns : goal.returns
returns c = room_stays
