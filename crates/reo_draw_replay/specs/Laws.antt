-- Laws of the rounds that lines show.
use Rattle.std.specs.Prelude.{ℕ, ◌≡◌, List}
use Rattle.reo_net_base.specs.declared.colouring.Colouring.{Colouring}
use Rattle.reo_net_base.specs.Net.{Wiring, net_of}
use Rattle.reo_trace.specs.declared.line.RoundLine.{RoundLine}
use Rattle.reo_rounds.specs.Rules.{Rules}
use Rattle.reo_rounds.specs.Order.{HasOrder}
use Rattle.reo_runs.specs.Run.{Place}
use Rattle.reo_draw_replay.specs.Rounds.{IsRound}

-- Lines show one circuit, one line and one colouring in the round of a number.
abbrev pub OneRound : {P : Type 0} → Rules P → Type 0
OneRound r =
    (start : Place _) (lines : List RoundLine) (number : ℕ) (w v : Wiring _) (x y : RoundLine) (c d : Colouring)
    → HasOrder (net_of r.behaviour start.state.circuit) → IsRound r start lines number w x c → IsRound r start lines number v y d
    → (w ≡ v) × (x ≡ y) × (c ≡ d)
