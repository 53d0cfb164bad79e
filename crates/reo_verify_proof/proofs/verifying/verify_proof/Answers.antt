use Rattle.std.proofs.Common.{◌≡◌, ℕ, rules}
use Rattle.std.specs.Prelude.{Result}
use Rattle.reo_runs.specs.Run.{start_of}
use Rattle.reo_runs.specs.at_ports.Kinds.{kind_rules}
use Rattle.reo_proof_texts.specs.declared.refusal.ProofRefusal.{ProofRefusal}
use Rattle.reo_proof_texts.specs.ProofVerdicts.{IsProofVerdict}
use Rattle.reo_verify_proof.specs.Answered.{IfVerdict}
use Rattle.reo_verify_proof.proofs.FirstsLemmas.{firsts_by}
use Rattle.reo_verify_proof.proofs.Verdicts.{verdict_then}
use Rattle.reo_verify_proof.proofs.verifying.verify_proof.Goals as goal

pub returns-clause-only : goal.returns-clause-only
returns-clause-only c = λ verdict is.
    let start = start_of c.args.flat.circuit c.args.script.components in
    let Verdict = IsProofVerdict kind_rules c.args.flat.ports.list c.args.flat.nodes c.args.flat.homes start c.args.proof.now in
    let exact : IfVerdict c.replay.result Verdict = search rules in
    verdict_then c.replay.result Verdict (λ answer. answer ≡ verdict)
    (λ (answer : Result ℕ ProofRefusal) holds. c.one_proof_verdict.ensures c.args.flat.ports.list c.args.flat.nodes c.args.flat.homes start c.args.proof.now answer verdict c.requires.told c.known_order.ensures holds is) exact

pub returns-clause-first : goal.returns-clause-first
returns-clause-first c =
    let start = start_of c.args.flat.circuit c.args.script.components in
    let exact : IfVerdict c.replay.result (IsProofVerdict kind_rules c.args.flat.ports.list c.args.flat.nodes c.args.flat.homes start c.args.proof.now) = search rules in
    firsts_by kind_rules c.args.flat.ports.list c.args.flat.nodes c.args.flat.homes start c.args.proof.now c.verified_rounds_are_first.ensures c.known_order.ensures c.replay.result exact
