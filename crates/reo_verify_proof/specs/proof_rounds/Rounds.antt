-- What comes of one round of a proof text.
use Rattle.std.specs.Prelude.{ℕ, ◌≡◌, List, Option}
use Rattle.reo_net_base.specs.Net.{Wiring}
use Rattle.reo_players.specs.Players.{Player}
use Rattle.reo_trace.specs.declared.line.RoundLine.{RoundLine}
use Rattle.reo_trace.specs.declared.line.Ending.{Ending}
use Rattle.reo_rounds.specs.Rules.{Rules}
use Rattle.reo_runs.specs.Round.{State, RoundOf, net_ready}
use Rattle.reo_runs.specs.Run.{over_after}
use Rattle.reo_runs.specs.at_ports.Pending.{IsButForOffers}
use Rattle.reo_runs.specs.verdicts.Replays.{colourings}
use Rattle.reo_verify.specs.judging.Judged.{IsLineStop}
use Rattle.reo_refute_base.specs.declared.faults.fault.ProofFault.{ProofFault}
use Rattle.reo_refute_base.specs.declared.faults.fault.ProofFault.TheVariants as faults
use Rattle.reo_refute_base.specs.faults.Faults.{IsProof, IsProofFault}
use Rattle.reo_verify_proof.specs.declared.proof_rounds.stop.RoundStop.{RoundStop}
use Rattle.reo_verify_proof.specs.declared.proof_rounds.stop.RoundStop.TheVariants as stops

-- The round that a line shows was made of a state, and its log shows that no colouring stands before it: the circuit is as it
-- left it, but for offers, and the components too.
pub record IsRoundProven {P : Type 0} (r : Rules P) (turn : ℕ) (a : State P) (line : RoundLine) (log : List ℕ)
    (w : Wiring P) (players : List Player) (over : Option Ending) : Type 0 where
  pub next : State P
  pub round : RoundOf colourings r turn a line next
  pub proof : IsProof (net_ready r a) turn round.made.rows log
  pub over_is : over ≡ over_after turn line.idle a.players next.players
  pub circuit : IsButForOffers r next.circuit w
  pub players_are : players ≡ next.players

-- The line shows a round of the state, and its log is not accepted.
pub record IsLogRefused {P : Type 0} (r : Rules P) (turn : ℕ) (a : State P) (line : RoundLine) (log : List ℕ)
    (fault : ProofFault) : Type 0 where
  pub next : State P
  pub round : RoundOf colourings r turn a line next
  pub fault_is : IsProofFault (net_ready r a) turn round.made.rows log fault

-- The log is not accepted, or memory ran out.
abbrev pub IsRefusedBy : {P : Type 0} → Rules P → ℕ → State P → RoundLine → List ℕ → ProofFault → Type 0
IsRefusedBy r turn a line log faults.NoMemory = Unit {0}
IsRefusedBy r turn a line log fault = IsLogRefused r turn a line log fault

-- Why the round is not accepted. Out of memory may come at any time.
abbrev pub IsNoProof : {P : Type 0} → Rules P → ℕ → State P → RoundLine → List ℕ → RoundStop → Type 0
IsNoProof r turn a line log (stops.Line stop) = IsLineStop (net_ready r a) a.circuit.ports line stop
IsNoProof r turn a line log (stops.Log fault) = IsRefusedBy r turn a line log fault
