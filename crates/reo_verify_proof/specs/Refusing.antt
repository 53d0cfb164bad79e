-- Refusals of the rounds of proof texts.
use Rattle.std.specs.Prelude.{ℕ, ◌+◌, ◌<◌, ◌^◌, ◌≡◌, ◌⊎◌, List}
use Rattle.reo_runs.specs.declared.verdicts.verdict.Refusal.{Refusal}
use Rattle.reo_runs.specs.declared.verdicts.verdict.Refusal.TheVariants as causes
use Rattle.reo_verify.specs.declared.judging.judging.Stop.{Stop}
use Rattle.reo_verify.specs.judging.Refused.{IsRefusalBy}
use Rattle.reo_refute_base.specs.declared.faults.fault.ProofFault.{ProofFault}
use Rattle.reo_refute_base.specs.declared.faults.fault.ProofFault.TheVariants as faults
use Rattle.reo_proof_texts.specs.declared.refusal.ProofRefusal.{ProofRefusal}
use Rattle.reo_proof_texts.specs.declared.refusal.ProofRefusal.TheVariants as refusals
use Rattle.reo_verify_proof.specs.declared.proof_rounds.stop.RoundStop.{RoundStop}
use Rattle.reo_verify_proof.specs.declared.proof_rounds.stop.RoundStop.TheVariants as stops

-- The refusal for the cause for which a trace is refused.
abbrev pub of_cause : Refusal → ProofRefusal
of_cause (causes.Line line) = refusals.Line line
of_cause (causes.Ended round) = refusals.Ended round
of_cause (causes.Round round wrong node) = refusals.Round round wrong node
of_cause (causes.Moves round) = refusals.Moves round
of_cause causes.End = refusals.End

-- The refusal of the round of a number whose line is not right, or memory ran out.
abbrev pub IsLineRefusal : List (List ℕ) → List ℕ → ℕ → Stop → ProofRefusal → Type 0
IsLineRefusal nodes homes round stop refusal =
    (refusal ≡ refusals.NoMemory)
    ⊎ ((cause : Refusal) × IsRefusalBy nodes homes round stop cause × (refusal ≡ of_cause cause))

-- The refusal of the round of a number, behind so many lines, whose log is not accepted for a fault.
abbrev pub IsLogRefusal : ℕ → ℕ → ProofFault → ProofRefusal → Type 0
IsLogRefusal before round (faults.Colouring wrong) refusal = ⊥
IsLogRefusal before round faults.Wide refusal = refusal ≡ refusals.Wide round
IsLogRefusal before round (faults.Line number) refusal =
    refusal ≡ refusals.Log round (before + 1 + number)
IsLogRefusal before round faults.NoMemory refusal = refusal ≡ refusals.NoMemory

-- The refusal of the round of a number, behind so many lines, that is not accepted.
abbrev pub IsRoundRefusal : List (List ℕ) → List ℕ → ℕ → ℕ → RoundStop → ProofRefusal → Type 0
IsRoundRefusal nodes homes before round (stops.Line stop) refusal =
    IsLineRefusal nodes homes round stop refusal
IsRoundRefusal nodes homes before round (stops.Log fault) refusal =
    IsLogRefusal before round fault refusal

-- The fault is of a log whose rows are those of a colouring, and its line has a small number.
abbrev pub IsOfLog : ℕ → ProofFault → Type 0
IsOfLog before (faults.Colouring wrong) = ⊥
IsOfLog before faults.Wide = Unit {0}
IsOfLog before (faults.Line number) = before + 1 + number < 2 ^ 64
IsOfLog before faults.NoMemory = Unit {0}

-- The line of the round is not right, or such a fault is in its log.
abbrev pub IsOfRound : ℕ → RoundStop → Type 0
IsOfRound before (stops.Line stop) = Unit {0}
IsOfRound before (stops.Log fault) = IsOfLog before fault
