-- Rounds that are made are those of the circuit.
use Rattle.std.specs.Prelude.{ℕ}
use Rattle.reo_net_base.specs.Net.{Wiring, net_of}
use Rattle.reo_net_base.specs.Step.{stepped}
use Rattle.reo_trace.specs.Entries.{line_for}
use Rattle.reo_rounds.specs.RoundOn.{RoundOn, first_within}
use Rattle.reo_rounds.specs.Rules.{Rules}
use Rattle.reo_engine.specs.MadeWithin.{IsMadeWithin, MadeRound}

-- The circuit after a round that was made.
abbrev pub after_made : {P : Type 0} → Rules P → Wiring P → MadeRound → Wiring P
after_made r w s = record w {
  primitives = stepped r.behaviour r.settled w s.colouring.rows s.colouring.items;
}

-- A round that is made by the first colouring is the round of the circuit, and its line shows it.
abbrev pub MadeRoundsAreRounds : {P : Type 0} → Rules P → Type 0
MadeRoundsAreRounds r = (budget turn : ℕ) (w : Wiring _) (s : MadeRound)
    → IsMadeWithin budget (net_of r.behaviour w) w.ports turn s
    → RoundOn (first_within budget) r turn w
    (line_for (net_of r.behaviour w) turn s.colouring.rows s.line.moves) (after_made r w s)
