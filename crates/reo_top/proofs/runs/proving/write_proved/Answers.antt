use Rattle.std.proofs.Common.{ℕ, ap, sym, subst, true}
use Rattle.std.specs.Prelude.{Err}
use Rattle.reo_trace.specs.declared.write.WriteFault.{WriteFault}
use Rattle.reo_trace.specs.declared.write.WriteFault.TheVariants.{Failed, NoMemory}
use Rattle.reo_command.specs.Readings.{Runnable}
use Rattle.reo_command.specs.ReadSteps.{runnable_in}
use Rattle.reo_command.specs.States.{SinkState, Change, sink_change}
use Rattle.reo_command.specs.top_base.Cases.{Cases, IsExactFor, IsFair}
use Rattle.reo_top.specs.runs.ProvedRuns.{ProvesRun}
use Rattle.reo_top.proofs.runs.ProveLemmas.{came_as, proved_cases, proved_exact, proved_fair, cut_cases, cut_fair, kept_cases, kept_fair}
use Rattle.reo_top.proofs.runs.RunLemmas.{start_for}
use Rattle.reo_top.proofs.runs.proving.write_proved.Goals as goal

pub returns-in-Ok-clause-cases : goal.returns-in-Ok-clause-cases
returns-in-Ok-clause-cases g c =
    let r : Runnable = runnable_in c.args.work.flat c.args.work.script in
    let sink : Change SinkState = sink_change g.S.Sink.told g.S.Sink.faults c.args.out.now c.prove_run.new.out in
    subst (λ (k : ℕ). Cases (ProvesRun c.args.limits r) sink k) (sym c.ending_status.ensures) (proved_cases c.args.limits r sink c.in-Ok.ending c.in-Ok.ensures.came)

pub returns-in-Ok-clause-exact : goal.returns-in-Ok-clause-exact
returns-in-Ok-clause-exact g c =
    let r : Runnable = runnable_in c.args.work.flat c.args.work.script in
    let sink : Change SinkState = sink_change g.S.Sink.told g.S.Sink.faults c.args.out.now c.prove_run.new.out in
    let one = c.one_trace.ensures c.args.limits.budget c.args.limits.rounds (start_for r) c.known_order.ensures in
    subst (λ (k : ℕ). IsExactFor true (ProvesRun c.args.limits r) sink k) (sym c.ending_status.ensures)
    (proved_exact c.args.limits r sink c.in-Ok.ending c.in-Ok.ensures.came one c.proved_texts_are_of_runs.ensures)

pub returns-in-Ok-clause-fair : goal.returns-in-Ok-clause-fair
returns-in-Ok-clause-fair g c =
    let r : Runnable = runnable_in c.args.work.flat c.args.work.script in
    let sink : Change SinkState = sink_change g.S.Sink.told g.S.Sink.faults c.args.out.now c.prove_run.new.out in
    subst (λ (k : ℕ). IsFair sink k) (sym c.ending_status.ensures) (proved_fair c.args.limits r sink c.in-Ok.ending c.in-Ok.ensures.came c.in-Ok.ensures.later)

pub returns-in-Err-Failed-clause-cases : goal.returns-in-Err-Failed-clause-cases
returns-in-Err-Failed-clause-cases g c =
    let r : Runnable = runnable_in c.args.work.flat c.args.work.script in
    cut_cases c.args.limits r _ (came_as c.args.limits r _ _ _ Failed c.in-Err-Failed.field-0-is c.in-Err-Failed.ensures.came) (c.in-Err-Failed.ensures.cause (ap (λ (f : WriteFault). Err f) c.in-Err-Failed.field-0-is))

pub returns-in-Err-Failed-clause-fair : goal.returns-in-Err-Failed-clause-fair
returns-in-Err-Failed-clause-fair g c =
    let r : Runnable = runnable_in c.args.work.flat c.args.work.script in
    cut_fair c.args.limits r _ (came_as c.args.limits r _ _ _ Failed c.in-Err-Failed.field-0-is c.in-Err-Failed.ensures.came) (c.in-Err-Failed.ensures.cause (ap (λ (f : WriteFault). Err f) c.in-Err-Failed.field-0-is)) c.in-Err-Failed.ensures.later

pub returns-in-Err-NoMemory-clause-cases : goal.returns-in-Err-NoMemory-clause-cases
returns-in-Err-NoMemory-clause-cases g c =
    let r : Runnable = runnable_in c.args.work.flat c.args.work.script in
    let mid : SinkState = record { told = g.S.Sink.told c.prove_run.new.out; faults = g.S.Sink.faults c.prove_run.new.out } in
    kept_cases c.args.limits r _ mid _ c.in-Err-NoMemory.ensures.later (came_as c.args.limits r _ _ _ NoMemory c.in-Err-NoMemory.field-0-is c.in-Err-NoMemory.ensures.came) c.no_memory.ensures.says

pub returns-in-Err-NoMemory-clause-fair : goal.returns-in-Err-NoMemory-clause-fair
returns-in-Err-NoMemory-clause-fair g c =
    let r : Runnable = runnable_in c.args.work.flat c.args.work.script in
    let mid : SinkState = record { told = g.S.Sink.told c.prove_run.new.out; faults = g.S.Sink.faults c.prove_run.new.out } in
    kept_fair c.args.limits r _ mid _ c.in-Err-NoMemory.ensures.later (came_as c.args.limits r _ _ _ NoMemory c.in-Err-NoMemory.field-0-is c.in-Err-NoMemory.ensures.came) c.no_memory.ensures.fair
