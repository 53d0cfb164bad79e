use Rattle.std.proofs.Common.{ap, sym, subst, length}
use Rattle.std.specs.Prelude.{None}
use Rattle.reo_runner.specs.declared.outcome.Limits.{Limits}
use Rattle.reo_command.specs.Limits.{usual_limits}
use Rattle.reo_command.specs.Readings.{Runnable}
use Rattle.reo_command.specs.ReadSteps.{runnable_in}
use Rattle.reo_command.specs.States.{sink_change}
use Rattle.reo_command.specs.top_base.Cases.{Cases, IsExact}
use Rattle.reo_top.specs.Measures.{MeasuresRun}
use Rattle.reo_command.proofs.top_base.CaseLemmas.{no_memory_cases}
use Rattle.reo_top.proofs.MeasureLemmas.{measure_cases, measure_exact}
use Rattle.reo_top.proofs.runs.RunLemmas.{start_for}
use Rattle.reo_top.proofs.measuring.write_measure.Goals as goal

pub returns-in_default-clause-cases : goal.returns-in_default-clause-cases
returns-in_default-clause-cases g c = no_memory_cases _ _ (MeasuresRun c.args.size usual_limits (runnable_in c.args.work.flat c.args.work.script)) c.no_memory.ensures.says

pub returns-in-Err-clause-cases : goal.returns-in-Err-clause-cases
returns-in-Err-clause-cases g c = no_memory_cases _ _ (MeasuresRun c.args.size usual_limits (runnable_in c.args.work.flat c.args.work.script)) c.no_memory-in-Err.ensures.says

pub returns-in-Ok-clause-cases : goal.returns-in-Ok-clause-cases
returns-in-Ok-clause-cases g c =
    let limits : Limits = c.usual_limits-limits.result in
    let r : Runnable = runnable_in c.args.work.flat c.args.work.script in
    let cases = measure_cases limits r c.args.size None None c.outcome_of-outcome.result c.outcome_of-outcome.ensures.came c.in-Some.ending (sym c.in-Some.ensures) _ _ c.as_slice.result.now c.in-Ok.line (length c.primitives-primitives.result.now) c.measure_status.result
    (ap length c.primitives-primitives.ensures) c.as_slice.ensures c.in-Ok.ensures c.measure_status.ensures c.answer.ensures.answers in
    subst (λ (l : Limits). Cases (MeasuresRun c.args.size l r) (sink_change g.S.Sink.told g.S.Sink.faults c.args.out.now c.answer.new.out) c.answer.result.code) c.usual_limits-limits.ensures cases

pub returns-in-Ok-clause-exact : goal.returns-in-Ok-clause-exact
returns-in-Ok-clause-exact g c =
    let limits : Limits = c.usual_limits-limits.result in
    let r : Runnable = runnable_in c.args.work.flat c.args.work.script in
    let one = c.one_trace.ensures limits.budget limits.rounds (start_for r) c.known_order.ensures in
    let exact = measure_exact limits r c.args.size None None c.outcome_of-outcome.result c.outcome_of-outcome.ensures.came c.in-Some.ending (sym c.in-Some.ensures) _ _ c.as_slice.result.now c.in-Ok.line (length c.primitives-primitives.result.now) c.measure_status.result
    (ap length c.primitives-primitives.ensures) c.as_slice.ensures c.in-Ok.ensures c.measure_status.ensures one c.answer.ensures.answers in
    subst (λ (l : Limits). IsExact (MeasuresRun c.args.size l r) (sink_change g.S.Sink.told g.S.Sink.faults c.args.out.now c.answer.new.out) c.answer.result.code) c.usual_limits-limits.ensures exact
