-- Proved texts that there are.
use Rattle.std.specs.Prelude.{ℕ, ◌≡◌, List, ◌++◌, map}
use Rattle.std.specs.List.{All}
use Rattle.reo_net_base.specs.declared.port.Port.{Port}
use Rattle.reo_net_base.specs.Net.{net_of}
use Rattle.reo_trace.specs.declared.line.RoundLine.{RoundLine}
use Rattle.reo_trace.specs.declared.line.Ending.{Ending}
use Rattle.reo_rounds.specs.Order.{HasOrder}
use Rattle.reo_rounds.specs.Rules.{Rules}
use Rattle.reo_runs.specs.Round.{Choosing}
use Rattle.reo_runs.specs.Run.{Place, firsts}
use Rattle.reo_proof_texts.specs.Cuts.{IsLogLine, LoggedRound}
use Rattle.reo_proof_texts.specs.Proven.{AreProven, IsProved}
use Rattle.reo_proof_laws.specs.Logs.{IsSized}

module _ {P : Type 0} (C : Choosing) (r : Rules P) (ports : List Port) (start : Place P) where
  -- A proved text of which these rounds with their logs stand first.
  pub record ProofGoesOn (first : List LoggedRound) : Type 0 where
    pub rest : List LoggedRound
    pub ending : Ending
    pub text : List ℕ
    pub proved : IsProved C r ports start (first ++ rest) ending text

  -- Rounds with right logs that lead somewhere go on to a proved text, no round being one of them.
  abbrev pub HasProofs : Type 0
  HasProofs = (first : List LoggedRound) (last : Place P) → AreProven C r 1 start first last
      → ProofGoesOn first

-- From each start on a circuit whose joints have an order there is a proved text, and what has
-- begun goes on to one.
abbrev pub ProofsExist : {P : Type 0} → Rules P → Type 0
ProofsExist r = (budget limit : ℕ) (ports : List Port) (start : Place _)
    → HasOrder (net_of r.behaviour start.state.circuit)
    → IsSized (net_of r.behaviour start.state.circuit)
    → HasProofs (firsts budget limit) r ports start

-- The line of a round with its log.
abbrev pub line_of : LoggedRound → RoundLine
line_of x = x.line

-- The log of a round is cut into lines, none of which ends it.
abbrev pub IsCut : LoggedRound → Type 0
IsCut x = All IsLogLine x.log

-- The same proved text, with the logs cut into lines.
pub record IsCutProof {P : Type 0} (C : Choosing) (r : Rules P) (ports : List Port)
    (start : Place P) (rounds : List LoggedRound) (ending : Ending) (text : List ℕ) : Type 0 where
  pub others : List LoggedRound
  pub are_cut : All IsCut others
  pub lines : map line_of others ≡ map line_of rounds
  pub proved : IsProved C r ports start others ending text

-- Each proved text can be cut so.
abbrev pub ProvedTextsAreCut : {P : Type 0} → Rules P → Type 0
ProvedTextsAreCut r = (budget limit : ℕ) (ports : List Port) (start : Place _)
    (rounds : List LoggedRound) (ending : Ending) (text : List ℕ)
    → IsProved (firsts budget limit) r ports start rounds ending text
    → IsCutProof (firsts budget limit) r ports start rounds ending text
