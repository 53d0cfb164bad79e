-- One round of a run.
use Rattle.std.specs.Prelude.{ℕ, ◌≡◌, Bool, false, List, map, option_and_then}
use Rattle.std.specs.Option.{option_map_or}
use Rattle.reo_net_base.specs.Marks.{is_flow}
use Rattle.reo_net_base.specs.Net.{Net, Wiring, mark_at, end_of}
use Rattle.reo_players.specs.Players.{Player, present, port_of, after}
use Rattle.reo_players.specs.Offers.{offer_for}
use Rattle.reo_trace.specs.declared.line.RoundLine.{RoundLine}
use Rattle.reo_trace.specs.declared.line.Ending.{Ending}
use Rattle.reo_rounds.specs.Rules.{Rules}
use Rattle.reo_rounds.specs.Ready.{ready_net}
use Rattle.reo_rounds.specs.EngineRound.{EngineRound}
use Rattle.reo_rounds.specs.RoundOn.{Suiting}

-- A circuit between two rounds, and the components.
pub record State (P : Type 0) : Type 0 where
  pub circuit : Wiring P
  pub players : List Player

-- The circuit of a state as mathematics, with the offer of each component pending and nothing else.
abbrev pub net_ready : {P : Type 0} → Rules P → State P → Net
net_ready r a = ready_net r (offer_for a.players) a.circuit

-- Whether the offer of a component flowed.
abbrev pub flowed : Net → List ℕ → Player → Bool
flowed net rows p = option_map_or (λ port. is_flow (mark_at net rows (end_of port 0))) (option_and_then port_of (present p)) false

-- The components after a round.
abbrev pub advanced : Net → List ℕ → List Player → List Player
advanced net rows players = map (λ (p : Player). after (flowed net rows p) p) players

-- Which rows and items a round of a number may have, and which endings may stand in its place.
pub record Choosing : Type 1 where
  pub suits : Suiting
  pub stops : Net → ℕ → Ending → Type 0

-- One round: that of the circuit with the offers of the components, after which each component has come as far as the rows say.
pub record RoundOf {P : Type 0} (C : Choosing) (r : Rules P) (turn : ℕ) (a : State P) (line : RoundLine) (b : State P) : Type 0 where
  pub made : EngineRound C.suits r (offer_for a.players) turn a.circuit line b.circuit
  pub players : b.players ≡ advanced (net_ready r a) made.rows a.players
