-- One round of a circuit with what is pending at its ports.
use Rattle.std.specs.Prelude.{ℕ, ◌≡◌, List, Option}
use Rattle.reo_values.specs.declared.value.Value.{Value}
use Rattle.reo_net_base.specs.First.{IsFirst}
use Rattle.reo_net_base.specs.Moves.{moves_of}
use Rattle.reo_net_base.specs.Net.{Net, Wiring, net_of}
use Rattle.reo_net_base.specs.Step.{stepped}
use Rattle.reo_trace.specs.declared.line.RoundLine.{RoundLine}
use Rattle.reo_trace.specs.Entries.{line_for}
use Rattle.reo_weights.specs.Over.{Cause, IsOver}
use Rattle.reo_rounds.specs.Rules.{Rules}

-- Which rows and items a round of a number may have.
abbrev pub Suiting : Type 1
Suiting = Net → ℕ → List ℕ → List (Option Value) → Type 0

-- The first colouring, where no part is over.
abbrev pub first_within : (budget : ℕ) → Suiting
first_within budget net turn rows items = ((cause : Cause) → IsOver budget net cause → ⊥) × IsFirst net turn rows items

-- A round: rows and items that suit, the line that shows them, and what they make of the circuit.
pub record RoundOn {P : Type 0} (suiting : Suiting) (r : Rules P) (turn : ℕ) (w : Wiring P) (line : RoundLine) (b : Wiring P) : Type 0 where
  pub rows : List ℕ
  pub items : List (Option Value)
  pub suits : suiting (net_of r.behaviour w) turn rows items
  pub shown : line ≡ line_for (net_of r.behaviour w) turn rows (moves_of (net_of r.behaviour w) w.ports rows items)
  pub circuit : b ≡ record w { primitives = stepped r.behaviour r.settled w rows items }
