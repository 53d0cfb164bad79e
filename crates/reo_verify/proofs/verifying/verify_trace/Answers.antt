use Rattle.std.proofs.Common.{rules}
use Rattle.std.specs.Prelude.{IfOk}
use Rattle.reo_runs.specs.Run.{start_of}
use Rattle.reo_runs.specs.at_ports.Kinds.{kind_rules}
use Rattle.reo_runs.specs.declared.verdicts.verdict.Verdict.{Verdict}
use Rattle.reo_runs.specs.verdicts.Verdicts.{IsVerdict}
use Rattle.reo_verify.proofs.VerdictLemmas.{only_by}
use Rattle.reo_verify.proofs.verifying.verify_trace.Goals as goal

pub returns-clause-only : goal.returns-clause-only
returns-clause-only c = λ verdict is.
    let start = start_of c.args.flat.circuit c.args.script.components in
    let exact : IfOk c.verdict_of.result (IsVerdict kind_rules c.args.flat.nodes c.args.flat.homes start c.args.trace.now) = search rules in
    only_by c.verdict_of.result (IsVerdict kind_rules c.args.flat.nodes c.args.flat.homes start c.args.trace.now) verdict
    (λ (answer : Verdict) holds. c.one_verdict.ensures c.args.flat.nodes c.args.flat.homes start c.args.trace.now answer verdict c.known_order.ensures holds is) exact
