-- The verdict on a proof, as what is owed.
use Rattle.std.proofs.Common.{ℕ, List, refl, arith}
use Rattle.std.specs.Prelude.{◌≢◌, Result, Ok, Err}
use Rattle.reo_proof_texts.specs.declared.refusal.ProofRefusal.{ProofRefusal}
use Rattle.reo_proof_texts.specs.proof_verdict_texts.VerdictTexts.{proof_verdict_line}
use Rattle.reo_command.specs.declared.command.Command.TheVariants.{VerifyProof}
use Rattle.reo_command.specs.Claims.{Claimed}
use Rattle.reo_command.specs.Statuses.{IsAmong, statuses_of}
use Rattle.reo_command.proofs.top_base.ToldLemmas.{told_status, told_not_three}
use Rattle.reo_top.specs.verdicts.Judged.{IsProofJudged, JudgesProof}
use Rattle.reo_top.specs.verdicts.ProofStatuses.{proof_status}
pub use Rattle.reo_verify_proof.proofs.Verdicts.{is_verdict as if_told}

-- The statuses of verdicts on proofs.
status_in : (v : Result ℕ ProofRefusal) → IsAmong (statuses_of VerifyProof) (proof_status v)
status_in (Ok rounds) = refl
status_in (Err refusal) = refl

pub status_not_nine : (v : Result ℕ ProofRefusal) → proof_status v ≢ 9
status_not_nine (Ok rounds) e = omega (arith, e)
status_not_nine (Err refusal) e = omega (arith, e)

status_not_three : (v : Result ℕ ProofRefusal) → proof_status v ≢ 3
status_not_three (Ok rounds) e = omega (arith, e)
status_not_three (Err refusal) e = omega (arith, e)

module _ (c : Claimed (List ℕ)) where
  pub proof_judged_status : (bytes : List ℕ) (status : ℕ) → JudgesProof c bytes status → IsAmong (statuses_of VerifyProof) status
  proof_judged_status bytes status h = told_status (IsProofJudged c) proof_verdict_line proof_status (statuses_of VerifyProof) status_in bytes status h

  pub proof_judged_not_three : (bytes : List ℕ) (status : ℕ) → JudgesProof c bytes status → status ≢ 3
  proof_judged_not_three bytes status h = told_not_three (IsProofJudged c) proof_verdict_line proof_status status_not_three bytes status h
