use Rattle.std.proofs.Common.{◌∙◌, ◌≡◌, ℕ, List, sym, subst}
use Rattle.std.specs.Prelude.{Result}
use Rattle.reo_proof_texts.specs.declared.refusal.ProofRefusal.{ProofRefusal}
use Rattle.reo_proof_texts.specs.proof_verdict_texts.VerdictTexts.{proof_verdict_line}
use Rattle.reo_verify_proof.specs.Answered.{IfVerdict}
use Rattle.reo_command.specs.Claims.{Claimed}
use Rattle.reo_command.specs.ReadSteps.{claimed_in}
use Rattle.reo_command.proofs.top_base.CaseLemmas.{no_memory_cases}
use Rattle.reo_command.proofs.top_base.ToldLemmas.{told_cases, told_exact, told_fair}
use Rattle.reo_top.specs.verdicts.Judged.{IsProofJudged, JudgesProof}
use Rattle.reo_top.specs.verdicts.ProofStatuses.{proof_status}
use Rattle.reo_top.proofs.verdicts.ProofLemmas.{if_told, status_not_nine}
use Rattle.reo_top.proofs.verdicts.proof.write_proof_verdict.Goals as goal

pub returns-in-Ok-clause-cases : goal.returns-in-Ok-clause-cases
returns-in-Ok-clause-cases g c =
    let claimed : Claimed (List ℕ) = claimed_in c.args.claim.work.flat c.args.claim.work.script c.args.claim.proof in
    let verdict : Result ℕ ProofRefusal = c.verify_proof-verdict.result in
    let exact : IfVerdict verdict (IsProofJudged claimed) =
    subst (λ (bytes : List ℕ). IfVerdict verdict (IsProofJudged (claimed_in c.args.claim.work.flat c.args.claim.work.script bytes))) c.as_slice.ensures c.verify_proof-verdict.ensures.exact in
    told_cases (IsProofJudged claimed) proof_verdict_line proof_status verdict _ _ c.as_slice-in-Ok.result.now c.proof_status.result (c.as_slice-in-Ok.ensures ∙ c.in-Ok.ensures.line) c.proof_status.ensures
    (if_told verdict (IsProofJudged claimed) c.in-Ok.ensures.told exact) c.answer.ensures.answers

pub returns-in-Ok-clause-exact : goal.returns-in-Ok-clause-exact
returns-in-Ok-clause-exact g c =
    let claimed : Claimed (List ℕ) = claimed_in c.args.claim.work.flat c.args.claim.work.script c.args.claim.proof in
    let verdict : Result ℕ ProofRefusal = c.verify_proof-verdict.result in
    let only : (other : Result ℕ ProofRefusal) → IsProofJudged claimed other → IfVerdict verdict (λ answer. answer ≡ other) =
    λ other is. c.verify_proof-verdict.ensures.only other (subst (λ (bytes : List ℕ). IsProofJudged (claimed_in c.args.claim.work.flat c.args.claim.work.script bytes) other) (sym c.as_slice.ensures) is) in
    told_exact (IsProofJudged claimed) proof_verdict_line proof_status verdict _ _ c.as_slice-in-Ok.result.now c.proof_status.result (c.as_slice-in-Ok.ensures ∙ c.in-Ok.ensures.line) c.proof_status.ensures
    (λ other is. if_told verdict (λ answer. answer ≡ other) c.in-Ok.ensures.told (only other is)) c.answer.ensures.answers

pub returns-in-Ok-clause-fair : goal.returns-in-Ok-clause-fair
returns-in-Ok-clause-fair g c =
    let claimed : Claimed (List ℕ) = claimed_in c.args.claim.work.flat c.args.claim.work.script c.args.claim.proof in
    told_fair (IsProofJudged claimed) proof_verdict_line proof_status c.verify_proof-verdict.result _ _ c.as_slice-in-Ok.result.now c.proof_status.result (c.as_slice-in-Ok.ensures ∙ c.in-Ok.ensures.line) c.proof_status.ensures
    (status_not_nine c.verify_proof-verdict.result) c.answer.ensures.fair

pub returns-clause-cases : goal.returns-clause-cases
returns-clause-cases g c = no_memory_cases _ _ (JudgesProof (claimed_in c.args.claim.work.flat c.args.claim.work.script c.args.claim.proof)) c.no_memory.ensures.says
