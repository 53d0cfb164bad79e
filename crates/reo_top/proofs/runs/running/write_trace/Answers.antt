use Rattle.std.proofs.Common.{◌+◌, length}
use Rattle.reo_runner.specs.declared.outcome.End2.TheVariants as ends
use Rattle.reo_trace.specs.declared.line.Ending.TheVariants.{Done, Stuck, Limit, Spent, Wide}
use Rattle.reo_command.specs.Readings.{Runnable}
use Rattle.reo_command.specs.ReadSteps.{runnable_in}
use Rattle.reo_command.specs.States.{SinkState, sink_change}
use Rattle.reo_top.proofs.runs.RunLemmas.{start_for, came_as, ran_exact, cut_cases, kept_cases, kept_fair}
use Rattle.reo_top.proofs.runs.running.write_trace.Goals as goal

pub returns-in-Done-clause-exact : goal.returns-in-Done-clause-exact
returns-in-Done-clause-exact g c =
    let r : Runnable = runnable_in c.args.work.flat c.args.work.script in
    let came = c.run-outcome.ensures.came in
    let one = c.one_trace.ensures c.args.limits.budget c.args.limits.rounds (start_for r) c.known_order.ensures in
    ran_exact c.args.limits r (sink_change g.S.Sink.told g.S.Sink.faults c.args.out.now c.run-outcome.new.out) came.lines (Done (length came.lines)) (came_as c.args.limits r _ _ c.run-outcome.result came ends.Done c.in-Done.is) one

pub returns-in-Stuck-clause-exact : goal.returns-in-Stuck-clause-exact
returns-in-Stuck-clause-exact g c =
    let r : Runnable = runnable_in c.args.work.flat c.args.work.script in
    let came = c.run-outcome.ensures.came in
    let one = c.one_trace.ensures c.args.limits.budget c.args.limits.rounds (start_for r) c.known_order.ensures in
    ran_exact c.args.limits r (sink_change g.S.Sink.told g.S.Sink.faults c.args.out.now c.run-outcome.new.out) came.lines (Stuck (length came.lines)) (came_as c.args.limits r _ _ c.run-outcome.result came ends.Stuck c.in-Stuck.is) one

pub returns-in-Limit-clause-exact : goal.returns-in-Limit-clause-exact
returns-in-Limit-clause-exact g c =
    let r : Runnable = runnable_in c.args.work.flat c.args.work.script in
    let came = c.run-outcome.ensures.came in
    let one = c.one_trace.ensures c.args.limits.budget c.args.limits.rounds (start_for r) c.known_order.ensures in
    ran_exact c.args.limits r (sink_change g.S.Sink.told g.S.Sink.faults c.args.out.now c.run-outcome.new.out) came.lines (Limit (length came.lines)) (came_as c.args.limits r _ _ c.run-outcome.result came ends.Limit c.in-Limit.is) one

pub returns-in-Spent-clause-exact : goal.returns-in-Spent-clause-exact
returns-in-Spent-clause-exact g c =
    let r : Runnable = runnable_in c.args.work.flat c.args.work.script in
    let came = c.run-outcome.ensures.came in
    let one = c.one_trace.ensures c.args.limits.budget c.args.limits.rounds (start_for r) c.known_order.ensures in
    ran_exact c.args.limits r (sink_change g.S.Sink.told g.S.Sink.faults c.args.out.now c.run-outcome.new.out) came.lines (Spent (length came.lines + 1) c.in-Spent.knot c.in-Spent.weight c.args.limits.budget) (came_as c.args.limits r _ _ c.run-outcome.result came (ends.Spent c.in-Spent.knot c.in-Spent.weight) c.in-Spent.is) one

pub returns-in-Wide-clause-exact : goal.returns-in-Wide-clause-exact
returns-in-Wide-clause-exact g c =
    let r : Runnable = runnable_in c.args.work.flat c.args.work.script in
    let came = c.run-outcome.ensures.came in
    let one = c.one_trace.ensures c.args.limits.budget c.args.limits.rounds (start_for r) c.known_order.ensures in
    ran_exact c.args.limits r (sink_change g.S.Sink.told g.S.Sink.faults c.args.out.now c.run-outcome.new.out) came.lines (Wide (length came.lines + 1) c.in-Wide.knot) (came_as c.args.limits r _ _ c.run-outcome.result came (ends.Wide c.in-Wide.knot) c.in-Wide.is) one

pub returns-in-WriteFault-clause-cases : goal.returns-in-WriteFault-clause-cases
returns-in-WriteFault-clause-cases g c =
    let r : Runnable = runnable_in c.args.work.flat c.args.work.script in
    let came = c.run-outcome.ensures.came in
    cut_cases c.args.limits r _ came.lines (came_as c.args.limits r _ _ c.run-outcome.result came ends.WriteFault c.in-WriteFault.is) (c.run-outcome.ensures.cause c.in-WriteFault.is)

pub returns-in-NoMemory-clause-cases : goal.returns-in-NoMemory-clause-cases
returns-in-NoMemory-clause-cases g c =
    let r : Runnable = runnable_in c.args.work.flat c.args.work.script in
    let came = c.run-outcome.ensures.came in
    let mid : SinkState = record { told = g.S.Sink.told c.run-outcome.new.out; faults = g.S.Sink.faults c.run-outcome.new.out } in
    kept_cases c.args.limits r _ mid _ came.lines c.run-outcome.ensures.later (came_as c.args.limits r _ _ c.run-outcome.result came ends.NoMemory c.in-NoMemory.is) c.no_memory.ensures.says

pub returns-in-NoMemory-clause-fair : goal.returns-in-NoMemory-clause-fair
returns-in-NoMemory-clause-fair g c =
    let r : Runnable = runnable_in c.args.work.flat c.args.work.script in
    let came = c.run-outcome.ensures.came in
    let mid : SinkState = record { told = g.S.Sink.told c.run-outcome.new.out; faults = g.S.Sink.faults c.run-outcome.new.out } in
    kept_fair c.args.limits r _ mid _ came.lines c.run-outcome.ensures.later (came_as c.args.limits r _ _ c.run-outcome.result came ends.NoMemory c.in-NoMemory.is) c.no_memory.ensures.fair
