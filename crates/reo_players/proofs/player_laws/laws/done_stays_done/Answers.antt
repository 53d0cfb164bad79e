use Rattle.reo_players.proofs.player_laws.Moves.{stays_done}
use Rattle.reo_players.proofs.player_laws.laws.done_stays_done.Goals as goal

pub returns : goal.returns
returns c = stays_done
