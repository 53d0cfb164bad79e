-- The verdict on a trace, and on a proof, of a script on a circuit.
use Rattle.std.specs.Prelude.{ℕ, List, Result}
use Rattle.reo_runs.specs.Run.{start_of}
use Rattle.reo_command.specs.Readings.{kind_rules}
use Rattle.reo_trace_reader.specs.declared.texts.trace.Trace.{Trace}
use Rattle.reo_runs.specs.declared.verdicts.verdict.Verdict.{Verdict}
use Rattle.reo_runs.specs.verdicts.Verdicts.{IsVerdict}
use Rattle.reo_proof_texts.specs.declared.refusal.ProofRefusal.{ProofRefusal}
use Rattle.reo_proof_texts.specs.ProofVerdicts.{IsProofVerdict}
use Rattle.reo_command.specs.Claims.{Claimed}
use Rattle.reo_command.specs.top_base.Outputs.{Outputs, IsLine}
use Rattle.reo_proof_texts.specs.proof_verdict_texts.VerdictTexts.{proof_verdict_line}
use Rattle.reo_top.specs.verdicts.ProofStatuses.{proof_status}
use Rattle.reo_top.specs.verdicts.VerdictTexts.{verdict_line, verdict_status}

-- This is the verdict on the trace.
abbrev pub IsTraceJudged : Claimed Trace → Verdict → Type 0
IsTraceJudged c verdict = IsVerdict kind_rules c.work.flat.nodes c.work.flat.homes (start_of c.work.flat.wiring c.work.script.components) c.claim verdict

-- It is written in a line, with its status.
abbrev pub JudgesTrace : Claimed Trace → Outputs
JudgesTrace c bytes code = (verdict : Verdict) × IsTraceJudged c verdict × IsLine (verdict_line verdict) (verdict_status verdict) bytes code

-- This is the verdict on the proof.
abbrev pub IsProofJudged : Claimed (List ℕ) → Result ℕ ProofRefusal → Type 0
IsProofJudged c verdict =
    IsProofVerdict kind_rules c.work.flat.ports c.work.flat.nodes c.work.flat.homes (start_of c.work.flat.wiring c.work.script.components) c.claim verdict

abbrev pub JudgesProof : Claimed (List ℕ) → Outputs
JudgesProof c bytes code = (verdict : Result ℕ ProofRefusal) × IsProofJudged c verdict × IsLine (proof_verdict_line verdict) (proof_status verdict) bytes code
