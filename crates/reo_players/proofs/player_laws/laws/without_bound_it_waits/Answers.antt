use Rattle.reo_players.proofs.player_laws.Waits.{waiting}
use Rattle.reo_players.proofs.player_laws.laws.without_bound_it_waits.Goals as goal

pub returns : goal.returns
returns c = waiting
