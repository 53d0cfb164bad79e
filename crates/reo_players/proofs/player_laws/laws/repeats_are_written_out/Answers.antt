use Rattle.reo_players.proofs.player_laws.Repeated.{repeated}
use Rattle.reo_players.proofs.player_laws.laws.repeats_are_written_out.Goals as goal

pub returns : goal.returns
returns c = repeated
