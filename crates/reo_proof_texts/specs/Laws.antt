-- Laws of proof texts.
use Rattle.std.specs.Prelude.{ℕ, ◌≡◌, List, length, map, Ok, Result}
use Rattle.reo_net_base.specs.declared.port.Port.{Port}
use Rattle.reo_net_base.specs.First.{IsFirst}
use Rattle.reo_net_base.specs.Net.{net_of}
use Rattle.reo_trace.specs.declared.line.Ending.{Ending}
use Rattle.reo_trace_reader.specs.texts.Lines.{AreTold, IsEnding}
use Rattle.reo_rounds.specs.Order.{HasOrder}
use Rattle.reo_rounds.specs.Rules.{Rules}
use Rattle.reo_runs.specs.Round.{Choosing}
use Rattle.reo_runs.specs.Run.{Place, IsRun, firsts}
use Rattle.reo_runs.specs.verdicts.Replays.{colourings}
use Rattle.reo_proof_texts.specs.declared.refusal.ProofRefusal.{ProofRefusal}
use Rattle.reo_proof_texts.specs.Cuts.{LoggedRound, AreLogged}
use Rattle.reo_proof_texts.specs.Proven.{IsProved}
use Rattle.reo_proof_texts.specs.ProofVerdicts.{IsProofVerdict}

-- A proof text has one verdict.
abbrev pub OneProofVerdict : {P : Type 0} → Rules P → Type 0
OneProofVerdict r =
    (ports : List Port) (nodes : List (List ℕ)) (homes : List ℕ) (start : Place _) (text : List ℕ)
    (a b : Result ℕ ProofRefusal)
    → AreTold ports → HasOrder (net_of r.behaviour start.state.circuit)
    → IsProofVerdict r ports nodes homes start text a
    → IsProofVerdict r ports nodes homes start text b → a ≡ b

-- The choice of a replay, but that each round is the first colouring.
abbrev pub first_colourings : Choosing
first_colourings = record {
  suits = λ net turn rows items. IsFirst net turn rows items;
  stops = colourings.stops;
}

-- It is verified only where its rounds are those of a run in which each is the first colouring.
abbrev pub VerifiedRoundsAreFirst : {P : Type 0} → Rules P → Type 0
VerifiedRoundsAreFirst r =
    (ports : List Port) (start : Place _) (rounds : List LoggedRound) (ending : Ending)
    (text : List ℕ) → HasOrder (net_of r.behaviour start.state.circuit)
    → IsProved colourings r ports start rounds ending text
    → IsRun first_colourings r start (map (λ (x : LoggedRound). x.line) rounds) ending

-- The proved text of a run is verified.
abbrev pub ProvedTextsAreVerified : {P : Type 0} → Rules P → Type 0
ProvedTextsAreVerified r =
    (budget limit : ℕ) (ports : List Port) (nodes : List (List ℕ)) (homes : List ℕ)
    (start : Place _) (rounds : List LoggedRound) (ending : Ending) (text : List ℕ)
    → AreLogged ports 1 rounds → IsEnding ending
    → IsProved (firsts budget limit) r ports start rounds ending text
    → IsProofVerdict r ports nodes homes start text (Ok (length rounds))

-- The proved text of a run has the rounds and the ending of the run.
abbrev pub ProvedTextsAreOfRuns : {P : Type 0} → Rules P → Type 0
ProvedTextsAreOfRuns r =
    (budget limit : ℕ) (ports : List Port) (start : Place _) (rounds : List LoggedRound)
    (ending : Ending) (text : List ℕ) → IsProved (firsts budget limit) r ports start rounds ending text
    → IsRun (firsts budget limit) r start (map (λ (x : LoggedRound). x.line) rounds) ending
