-- The rounds that the lines of a trace show.
use Rattle.std.specs.Prelude.{ℕ, ◌≡◌, ◌+◌, ◌++◌, List, ◌∷◌, length}
use Rattle.reo_net_base.specs.declared.colouring.Colouring.{Colouring}
use Rattle.reo_net_base.specs.Net.{Wiring, net_of}
use Rattle.reo_players.specs.Offers.{offer_for}
use Rattle.reo_trace.specs.declared.line.RoundLine.{RoundLine}
use Rattle.reo_rounds.specs.Rules.{Rules}
use Rattle.reo_rounds.specs.Ready.{ready}
use Rattle.reo_runs.specs.Run.{Place, Leads}
use Rattle.reo_runs.specs.verdicts.Replays.{colourings}
use Rattle.reo_verify.specs.judging.Judged.{IsColouringSaid}

-- The round of a number: the lines before it are rounds of a run from the start, this is the circuit that they have left, with
-- the offers of the components, and the line says this colouring of it.
pub record IsRound {P : Type 0} (r : Rules P) (start : Place P) (lines : List RoundLine) (number : ℕ) (w : Wiring P) (line : RoundLine) (colouring : Colouring) : Type 0 where
  pub right : List RoundLine
  pub left : List RoundLine
  pub before : Place P
  pub cut : lines ≡ right ++ line ∷ left
  pub number_is : number ≡ length right + 1
  pub rounds : Leads colourings r 1 start right before
  pub circuit : w ≡ ready r (offer_for before.state.players) before.state.circuit
  pub says : IsColouringSaid (net_of r.behaviour w) line.entries colouring
