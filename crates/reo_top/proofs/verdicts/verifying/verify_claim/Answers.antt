use Rattle.std.proofs.Common.{List, [], ◌∷◌, refl}
use Rattle.reo_command.specs.declared.command.Command.TheVariants.{Verify}
use Rattle.reo_command.specs.declared.role.Role.TheVariants.{Circuit, Script, Trace}
use Rattle.reo_command.specs.Claims.{ReadsClaim, StopsVerify}
use Rattle.reo_top.specs.verdicts.Judged.{JudgesTrace}
use Rattle.reo_command.specs.ReadSteps.{claimed_in}
use Rattle.reo_command.specs.Statuses.{statuses_of}
use Rattle.reo_command.proofs.top_base.AnswerLemmas.{refused_answered, refused_status_in, made_answered, made_status_in}
use Rattle.reo_command.specs.declared.claim.Claim.{Claim}
use Rattle.reo_command.specs.Fetched.{Content}
use Rattle.reo_command.proofs.ClaimLemmas.{claim_reading}
use Rattle.reo_command.proofs.ReadLemmas.{same_stops}
use Rattle.reo_top.proofs.verdicts.VerdictLemmas.{judged_status, judged_not_three}
use Rattle.reo_top.proofs.verdicts.verifying.verify_claim.Goals as goal

-- What is read, as the code has it.
abbrev Reads : List Content → Claim → Type 0
Reads answers claim = ReadsClaim answers (claimed_in claim.work.flat claim.work.script claim.trace)

pub returns-in-Ok-clause-answered : goal.returns-in-Ok-clause-answered
returns-in-Ok-clause-answered g c =
    let law = claim_reading c.one_trace_answer.ensures c.circuits_are_spelled.ensures c.circuit_names_are_plain.ensures c.ports_are_told.ensures c.in-Ok.ensures.read.answers c.in-Ok.ensures.read.short in
    let claimed = claimed_in c.in-Ok.claim.work.flat c.in-Ok.claim.work.script c.in-Ok.claim.trace in
    made_answered ReadsClaim StopsVerify JudgesTrace (statuses_of Verify) _ _ c.in-Ok.ensures.read.answers law claimed c.in-Ok.ensures.read.read
    c.write_verdict.ensures.cases c.write_verdict.ensures.exact (judged_not_three claimed)
    (Circuit ∷ Script ∷ Trace ∷ []) (c.args.circuit.now ∷ c.args.script.now ∷ c.args.trace.now ∷ []) _ c.in-Ok.ensures.read.fetched

pub returns-in-Ok-clause-status : goal.returns-in-Ok-clause-status
returns-in-Ok-clause-status g c =
    let law = claim_reading c.one_trace_answer.ensures c.circuits_are_spelled.ensures c.circuit_names_are_plain.ensures c.ports_are_told.ensures c.in-Ok.ensures.read.answers c.in-Ok.ensures.read.short in
    let claimed = claimed_in c.in-Ok.claim.work.flat c.in-Ok.claim.work.script c.in-Ok.claim.trace in
    made_status_in ReadsClaim StopsVerify JudgesTrace (statuses_of Verify) _ _ c.in-Ok.ensures.read.answers law claimed c.in-Ok.ensures.read.read
    c.write_verdict.ensures.cases (judged_status claimed) refl refl

pub returns-in-Err-clause-answered : goal.returns-in-Err-clause-answered
returns-in-Err-clause-answered g c =
    let law = claim_reading c.one_trace_answer.ensures c.circuits_are_spelled.ensures c.circuit_names_are_plain.ensures c.ports_are_told.ensures c.in-Err.ensures.read.answers c.in-Err.ensures.read.short in
    let stopped = same_stops Reads ReadsClaim StopsVerify c.in-Err.ensures.read.answers c.in-Err.stop c.in-Err.ensures.read.read in
    refused_answered ReadsClaim StopsVerify JudgesTrace (statuses_of Verify) _ _ c.in-Err.ensures.read.answers law c.in-Err.stop stopped c.refuse.ensures.refused
    (Circuit ∷ Script ∷ Trace ∷ []) (c.args.circuit.now ∷ c.args.script.now ∷ c.args.trace.now ∷ []) _ c.in-Err.ensures.read.fetched

pub returns-in-Err-clause-status : goal.returns-in-Err-clause-status
returns-in-Err-clause-status g c =
    let law = claim_reading c.one_trace_answer.ensures c.circuits_are_spelled.ensures c.circuit_names_are_plain.ensures c.ports_are_told.ensures c.in-Err.ensures.read.answers c.in-Err.ensures.read.short in
    let stopped = same_stops Reads ReadsClaim StopsVerify c.in-Err.ensures.read.answers c.in-Err.stop c.in-Err.ensures.read.read in
    refused_status_in ReadsClaim StopsVerify JudgesTrace (statuses_of Verify) _ _ c.in-Err.ensures.read.answers law c.in-Err.stop stopped c.refuse.ensures.refused refl refl
