-- What a run has come to after some of its rounds.
use Rattle.std.specs.Prelude.{ℕ, ◌≡◌, Option, None, List, length}
use Rattle.reo_io.specs.Sinks.{Appended}
use Rattle.reo_net_base.specs.declared.port.Port.{Port}
use Rattle.reo_net_base.specs.Net.{Wiring}
use Rattle.reo_players.specs.Players.{Player}
use Rattle.reo_trace.specs.declared.line.RoundLine.{RoundLine}
use Rattle.reo_trace.specs.TraceText.{rounds_text}
use Rattle.reo_rounds.specs.Rules.{Rules}
use Rattle.reo_runs.specs.Run.{Place, Leads, firsts}
use Rattle.reo_runs.specs.at_ports.Pending.{IsButForOffers}
use Rattle.reo_runner.specs.Outcome.{Counts}
use Rattle.reo_runner.specs.declared.outcome.Tally.{Tally}

module _ {P : Type 0} (r : Rules P) (ports : List Port) (budget limit : ℕ) (start : Place P) where
  -- So far: these round lines were made and written, and the run goes on with a circuit that this one is but for offers.
  pub record SoFar (before now : Option (List ℕ)) (rounds_made : ℕ) (w : Wiring P) (players : List Player) (t : Tally) : Type 0 where
    pub lines : List RoundLine
    pub circuit : Wiring P
    pub rounds : Leads (firsts budget limit) r 1 start lines (record { state = record { circuit = circuit; players = players }; over = None })
    pub left : IsButForOffers r circuit w
    pub count : rounds_made ≡ length lines
    pub text : Appended before now (rounds_text ports lines)
    pub counts : Counts ports lines t
