use Rattle.std.proofs.Common.{List, [], ◌∷◌, refl}
use Rattle.reo_command.specs.declared.claim.ProofClaim.{ProofClaim}
use Rattle.reo_command.specs.declared.command.Command.TheVariants.{VerifyProof}
use Rattle.reo_command.specs.declared.role.Role.TheVariants.{Circuit, Script, Proof}
use Rattle.reo_command.specs.Claims.{ReadsProof, StopsProof}
use Rattle.reo_command.specs.Fetched.{Content}
use Rattle.reo_command.specs.ReadSteps.{claimed_in}
use Rattle.reo_command.specs.Statuses.{statuses_of}
use Rattle.reo_command.proofs.ClaimLemmas.{proof_reading}
use Rattle.reo_command.proofs.ReadLemmas.{same_stops}
use Rattle.reo_command.proofs.top_base.AnswerLemmas.{refused_answered, refused_status_in, made_answered, made_status_in}
use Rattle.reo_top.specs.verdicts.Judged.{JudgesProof}
use Rattle.reo_top.proofs.verdicts.ProofLemmas.{proof_judged_status, proof_judged_not_three}
use Rattle.reo_top.proofs.verdicts.proof.verify_proof_claim.Goals as goal

-- What is read, as the code has it.
abbrev Reads : List Content → ProofClaim → Type 0
Reads answers claim = ReadsProof answers (claimed_in claim.work.flat claim.work.script claim.proof)

pub returns-in-Ok-clause-answered : goal.returns-in-Ok-clause-answered
returns-in-Ok-clause-answered g c =
    let law = proof_reading c.in-Ok.ensures.read.answers c.in-Ok.ensures.read.short in
    let claimed = claimed_in c.in-Ok.claim.work.flat c.in-Ok.claim.work.script c.in-Ok.claim.proof in
    made_answered ReadsProof StopsProof JudgesProof (statuses_of VerifyProof) _ _ c.in-Ok.ensures.read.answers law claimed c.in-Ok.ensures.read.read
    c.write_proof_verdict.ensures.cases c.write_proof_verdict.ensures.exact (proof_judged_not_three claimed)
    (Circuit ∷ Script ∷ Proof ∷ []) (c.args.circuit.now ∷ c.args.script.now ∷ c.args.proof.now ∷ []) _ c.in-Ok.ensures.read.fetched

pub returns-in-Ok-clause-status : goal.returns-in-Ok-clause-status
returns-in-Ok-clause-status g c =
    let law = proof_reading c.in-Ok.ensures.read.answers c.in-Ok.ensures.read.short in
    let claimed = claimed_in c.in-Ok.claim.work.flat c.in-Ok.claim.work.script c.in-Ok.claim.proof in
    made_status_in ReadsProof StopsProof JudgesProof (statuses_of VerifyProof) _ _ c.in-Ok.ensures.read.answers law claimed c.in-Ok.ensures.read.read
    c.write_proof_verdict.ensures.cases (proof_judged_status claimed) refl refl

pub returns-in-Err-clause-answered : goal.returns-in-Err-clause-answered
returns-in-Err-clause-answered g c =
    let law = proof_reading c.in-Err.ensures.read.answers c.in-Err.ensures.read.short in
    let stopped = same_stops Reads ReadsProof StopsProof c.in-Err.ensures.read.answers c.in-Err.stop c.in-Err.ensures.read.read in
    refused_answered ReadsProof StopsProof JudgesProof (statuses_of VerifyProof) _ _ c.in-Err.ensures.read.answers law c.in-Err.stop stopped c.refuse.ensures.refused
    (Circuit ∷ Script ∷ Proof ∷ []) (c.args.circuit.now ∷ c.args.script.now ∷ c.args.proof.now ∷ []) _ c.in-Err.ensures.read.fetched

pub returns-in-Err-clause-status : goal.returns-in-Err-clause-status
returns-in-Err-clause-status g c =
    let law = proof_reading c.in-Err.ensures.read.answers c.in-Err.ensures.read.short in
    let stopped = same_stops Reads ReadsProof StopsProof c.in-Err.ensures.read.answers c.in-Err.stop c.in-Err.ensures.read.read in
    refused_status_in ReadsProof StopsProof JudgesProof (statuses_of VerifyProof) _ _ c.in-Err.ensures.read.answers law c.in-Err.stop stopped c.refuse.ensures.refused refl refl
