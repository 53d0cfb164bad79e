-- What stands at the start of a round of a replay.
use Rattle.std.specs.Prelude.{◌≡◌, List}
use Rattle.reo_net_base.specs.Net.{Wiring}
use Rattle.reo_players.specs.Offers.{offer_for}
use Rattle.reo_trace.specs.declared.line.RoundLine.{RoundLine}
use Rattle.reo_rounds.specs.Rules.{Rules}
use Rattle.reo_rounds.specs.Ready.{ready}
use Rattle.reo_runs.specs.Run.{Place, Leads}
use Rattle.reo_runs.specs.verdicts.Replays.{colourings}

-- The circuit stands behind lines: they are rounds from the start, and it is the one that they have left, with the offers of the components.
pub record StandsBehind {P : Type 0} (r : Rules P) (start : Place P) (lines : List RoundLine) (w : Wiring P) : Type 0 where
  pub before : Place P
  pub rounds : Leads colourings r 1 start lines before
  pub circuit : w ≡ ready r (offer_for before.state.players) before.state.circuit
