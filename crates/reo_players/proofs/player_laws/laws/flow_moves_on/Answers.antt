use Rattle.reo_players.proofs.player_laws.Moves.{moves_on}
use Rattle.reo_players.proofs.player_laws.laws.flow_moves_on.Goals as goal

pub returns : goal.returns
returns c = moves_on
