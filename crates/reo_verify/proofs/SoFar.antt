-- What a replay has come to after some of its lines.
use Rattle.std.specs.Prelude.{Option, List}
use Rattle.reo_net_base.specs.Net.{Wiring}
use Rattle.reo_players.specs.Players.{Player}
use Rattle.reo_trace.specs.declared.line.RoundLine.{RoundLine}
use Rattle.reo_trace.specs.declared.line.Ending.{Ending}
use Rattle.reo_rounds.specs.Rules.{Rules}
use Rattle.reo_runs.specs.Run.{Place, Leads}
use Rattle.reo_runs.specs.at_ports.Pending.{IsButForOffers}
use Rattle.reo_runs.specs.verdicts.Replays.{colourings}

-- So far: the lines are rounds of a run, which is over so or goes on, with a circuit that this one is but for offers.
pub record SoFar {P : Type 0} (r : Rules P) (start : Place P) (lines : List RoundLine) (w : Wiring P) (players : List Player) (over : Option Ending) : Type 0 where
  pub circuit : Wiring P
  pub rounds : Leads colourings r 1 start lines (record { state = record { circuit = circuit; players = players }; over = over })
  pub left : IsButForOffers r circuit w
