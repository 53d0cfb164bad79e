-- What holds of rounds.
use Rattle.std.specs.Prelude.{ℕ}
use Rattle.reo_net_base.specs.Net.{Wiring, net_of}
use Rattle.reo_net_base.specs.Step.{stepped}
use Rattle.reo_rounds.specs.declared.plan.PlannedRound.{PlannedRound}
use Rattle.reo_rounds.specs.Plans.{IsPlannedRound}
use Rattle.reo_rounds.specs.RoundOn.{RoundOn, first_within}
use Rattle.reo_rounds.specs.Rules.{Rules}

-- The circuit after the round that was planned.
abbrev pub after_planned : {P : Type 0} → Rules P → Wiring P → PlannedRound → Wiring P
after_planned r w p = record w { primitives = stepped r.behaviour r.settled w p.plan.colouring.rows p.plan.colouring.items }

-- A round that is planned is the round of the circuit.
abbrev pub PlannedRoundsAreMade : {P : Type 0} → Rules P → Type 0
PlannedRoundsAreMade r = (budget turn : ℕ) (w : Wiring _) (p : PlannedRound) → IsPlannedRound budget (net_of r.behaviour w) w.ports turn p
    → RoundOn (first_within budget) r turn w p.line (after_planned r w p)
