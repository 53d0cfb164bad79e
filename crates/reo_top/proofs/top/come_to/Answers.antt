-- Each command by what its words ask.
use Rattle.std.proofs.Common.{[], ◌∷◌, refl, subst}
use Rattle.reo_command.specs.declared.command.Command.TheVariants as commands
use Rattle.reo_command.specs.Requests.{IsRequest}
use Rattle.reo_top.proofs.ComeLemmas.{still_comes, run_comes, bench_comes, live_comes, none_comes}
use Rattle.reo_top.proofs.top.come_to.Goals as goal

pub returns-in_default : goal.returns-in_default
returns-in_default g c = none_comes g.R.Source.told g.R.Source.given g.R.Source.ends g.R.Source.faults c.args.source.now c.args.words.now _ _ _ c.in_default.ensures.exact c.answer.ensures.answers c.answer.ensures.fair c.answer.ensures.tells refl

pub returns-in-Run : goal.returns-in-Run
returns-in-Run g c =
    let done = c.run_circuit.ensures in
    run_comes g.R.Source.told g.R.Source.given g.R.Source.ends g.R.Source.faults c.args.source.now c.args.words.now _ _ _ c.in-Run.limits c.in-Run.circuit.now c.in-Run.script.now (subst (IsRequest c.args.words.now) c.in-Run.is c.in-Some.ensures.exact) done.answered done.status done.fair done.tells

pub returns-in-Check : goal.returns-in-Check
returns-in-Check g c =
    still_comes g.R.Source.told g.R.Source.given g.R.Source.ends g.R.Source.faults c.args.source.now c.args.words.now _ _ _ commands.Check (c.in-Check.circuit.now ∷ []) (subst (IsRequest c.args.words.now) c.in-Check.is c.in-Some.ensures.exact) refl c.check_circuit.ensures.answered c.check_circuit.ensures.status c.check_circuit.ensures.fair c.check_circuit.ensures.tells

pub returns-in-Print : goal.returns-in-Print
returns-in-Print g c =
    still_comes g.R.Source.told g.R.Source.given g.R.Source.ends g.R.Source.faults c.args.source.now c.args.words.now _ _ _ commands.Print (c.in-Print.circuit.now ∷ []) (subst (IsRequest c.args.words.now) c.in-Print.is c.in-Some.ensures.exact) refl c.print_circuit.ensures.answered c.print_circuit.ensures.status c.print_circuit.ensures.fair c.print_circuit.ensures.tells

pub returns-in-Upgrade : goal.returns-in-Upgrade
returns-in-Upgrade g c =
    still_comes g.R.Source.told g.R.Source.given g.R.Source.ends g.R.Source.faults c.args.source.now c.args.words.now _ _ _ commands.Upgrade (c.in-Upgrade.circuit.now ∷ []) (subst (IsRequest c.args.words.now) c.in-Upgrade.is c.in-Some.ensures.exact) refl c.upgrade_circuit.ensures.answered c.upgrade_circuit.ensures.status c.upgrade_circuit.ensures.fair c.upgrade_circuit.ensures.tells

pub returns-in-Verify : goal.returns-in-Verify
returns-in-Verify g c =
    still_comes g.R.Source.told g.R.Source.given g.R.Source.ends g.R.Source.faults c.args.source.now c.args.words.now _ _ _ commands.Verify (c.in-Verify.circuit.now ∷ c.in-Verify.script.now ∷ c.in-Verify.trace.now ∷ []) (subst (IsRequest c.args.words.now) c.in-Verify.is c.in-Some.ensures.exact) refl c.verify_claim.ensures.answered c.verify_claim.ensures.status c.verify_claim.ensures.fair c.verify_claim.ensures.tells

pub returns-in-Tables : goal.returns-in-Tables
returns-in-Tables g c =
    still_comes g.R.Source.told g.R.Source.given g.R.Source.ends g.R.Source.faults c.args.source.now c.args.words.now _ _ _ commands.Tables (c.in-Tables.circuit.now ∷ []) (subst (IsRequest c.args.words.now) c.in-Tables.is c.in-Some.ensures.exact) refl c.list_circuit.ensures.answered c.list_circuit.ensures.status c.list_circuit.ensures.fair c.list_circuit.ensures.tells

pub returns-in-Prove : goal.returns-in-Prove
returns-in-Prove g c =
    still_comes g.R.Source.told g.R.Source.given g.R.Source.ends g.R.Source.faults c.args.source.now c.args.words.now _ _ _ commands.Prove (c.in-Prove.circuit.now ∷ c.in-Prove.script.now ∷ []) (subst (IsRequest c.args.words.now) c.in-Prove.is c.in-Some.ensures.exact) refl c.prove_circuit.ensures.answered c.prove_circuit.ensures.status c.prove_circuit.ensures.fair c.prove_circuit.ensures.tells

pub returns-in-VerifyProof : goal.returns-in-VerifyProof
returns-in-VerifyProof g c =
    still_comes g.R.Source.told g.R.Source.given g.R.Source.ends g.R.Source.faults c.args.source.now c.args.words.now _ _ _ commands.VerifyProof (c.in-VerifyProof.circuit.now ∷ c.in-VerifyProof.script.now ∷ c.in-VerifyProof.proof.now ∷ []) (subst (IsRequest c.args.words.now) c.in-VerifyProof.is c.in-Some.ensures.exact) refl c.verify_proof_claim.ensures.answered c.verify_proof_claim.ensures.status c.verify_proof_claim.ensures.fair c.verify_proof_claim.ensures.tells

pub returns-in-Bench : goal.returns-in-Bench
returns-in-Bench g c =
    let done = c.measure_work.ensures in
    bench_comes g.R.Source.told g.R.Source.given g.R.Source.ends g.R.Source.faults c.args.source.now c.args.words.now _ _ _ c.in-Bench.size (subst (IsRequest c.args.words.now) c.in-Bench.is c.in-Some.ensures.exact) done.cases done.exact done.status done.fair done.tells refl

pub returns-in-Live : goal.returns-in-Live
returns-in-Live g c =
    let done = c.hear_events.ensures in
    live_comes _ _ c.args.words.now _ _ _ _ c.in-Live.budget c.in-Live.circuit.now (subst (IsRequest c.args.words.now) c.in-Live.is c.in-Some.ensures.exact) done.answered done.status done.fair done.tells
