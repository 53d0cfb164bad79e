-- Pictures of rounds of traces.
use Rattle.std.specs.Prelude.{ℕ, ◌≡◌, List}
use Rattle.reo_net_base.specs.declared.colouring.Colouring.{Colouring}
use Rattle.reo_net_base.specs.declared.port.Port.{Port}
use Rattle.reo_net_base.specs.Net.{Wiring}
use Rattle.reo_kinds.specs.declared.kind.Kind.{Kind}
use Rattle.reo_trace.specs.declared.line.RoundLine.{RoundLine}
use Rattle.reo_runs.specs.Run.{Place}
use Rattle.reo_runs.specs.at_ports.Kinds.{kind_rules}
use Rattle.reo_draw_rounds.specs.Rounds.{round_picture}
use Rattle.reo_draw_replay.specs.Rounds.{IsRound}

-- The picture of the round of a number: of the circuit in that round, in the colouring of its line.
pub record IsDrawn (ports : List Port) (nodes : List (List ℕ)) (homes : List ℕ) (start : Place Kind) (lines : List RoundLine) (number : ℕ) (picture : List ℕ) : Type 0 where
  pub circuit : Wiring Kind
  pub line : RoundLine
  pub colouring : Colouring
  pub round : IsRound kind_rules start lines number circuit line colouring
  pub is : picture ≡ round_picture circuit ports homes nodes line colouring
