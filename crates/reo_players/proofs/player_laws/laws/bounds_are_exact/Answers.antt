use Rattle.reo_players.proofs.player_laws.Waits.{exact}
use Rattle.reo_players.proofs.player_laws.laws.bounds_are_exact.Goals as goal

pub returns : goal.returns
returns c = exact
