use Rattle.std.proofs.Common.{List, [], ◌∷◌, true, refl, subst}
use Rattle.reo_runner.specs.declared.outcome.Limits.{Limits}
use Rattle.reo_command.specs.declared.command.Command.TheVariants.{Prove}
use Rattle.reo_command.specs.declared.role.Role.TheVariants.{Circuit, Script}
use Rattle.reo_command.specs.declared.reading.CircuitAndScript.{CircuitAndScript}
use Rattle.reo_command.specs.Fetched.{Content}
use Rattle.reo_command.specs.Limits.{usual_limits}
use Rattle.reo_command.specs.Readings.{Runnable, ReadsRun, StopsRun}
use Rattle.reo_command.specs.ReadSteps.{runnable_in}
use Rattle.reo_command.specs.States.{files_change, sink_change}
use Rattle.reo_command.specs.Statuses.{statuses_of}
use Rattle.reo_command.proofs.ReadLemmas.{reading_at, same_stops}
use Rattle.reo_command.proofs.WorkLemmas.{run_reading}
use Rattle.reo_command.specs.top_base.Answered.{IsAnswered}
use Rattle.reo_command.specs.top_base.Owed.{owed_by}
use Rattle.reo_command.proofs.top_base.AnswerLemmas.{freely_refused, refused_status_in, freely_made, made_status_in}
use Rattle.reo_top.specs.runs.ProvedRuns.{ProvesRun}
use Rattle.reo_top.proofs.runs.ProveLemmas.{proved_status, proved_not_three}
use Rattle.reo_top.proofs.runs.proving.prove_circuit.Goals as goal

-- What is read, as the code has it.
abbrev Reads : List Content → CircuitAndScript → Type 0
Reads answers work = ReadsRun answers (runnable_in work.flat work.script)

pub returns-in-Ok-clause-answered : goal.returns-in-Ok-clause-answered
returns-in-Ok-clause-answered g c =
    let limits : Limits = c.usual_limits.result in
    let r : Runnable = runnable_in c.in-Ok.work.flat c.in-Ok.work.script in
    let made = freely_made ReadsRun StopsRun (ProvesRun limits) (statuses_of Prove) _ _ c.in-Ok.ensures.read.answers (reading_at run_reading _) r c.in-Ok.ensures.read.read c.write_proved.ensures.cases c.write_proved.ensures.exact (proved_not_three limits r)
    (Circuit ∷ Script ∷ []) (c.args.circuit.now ∷ c.args.script.now ∷ []) _ c.in-Ok.ensures.read.fetched in
    subst
    (λ (l : Limits). IsAnswered true (owed_by ReadsRun StopsRun (ProvesRun l)) (Circuit ∷ Script ∷ []) (c.args.circuit.now ∷ c.args.script.now ∷ []) (files_change g.F.Files.told g.F.Files.failed g.F.Files.given g.F.Files.long g.F.Files.fetches c.args.files.now c.read_run.new.files)
    (sink_change g.S.Sink.told g.S.Sink.faults c.args.out.now c.write_proved.new.out) c.write_proved.result.code) c.usual_limits.ensures made

pub returns-in-Ok-clause-status : goal.returns-in-Ok-clause-status
returns-in-Ok-clause-status g c =
    let r : Runnable = runnable_in c.in-Ok.work.flat c.in-Ok.work.script in
    made_status_in ReadsRun StopsRun (ProvesRun c.usual_limits.result) (statuses_of Prove) _ _ c.in-Ok.ensures.read.answers (reading_at run_reading _) r c.in-Ok.ensures.read.read
    c.write_proved.ensures.cases (proved_status c.usual_limits.result r) refl refl

pub returns-in-Err-clause-answered : goal.returns-in-Err-clause-answered
returns-in-Err-clause-answered g c =
    let stopped = same_stops Reads ReadsRun StopsRun c.in-Err.ensures.read.answers c.in-Err.stop c.in-Err.ensures.read.read in
    freely_refused ReadsRun StopsRun (ProvesRun usual_limits) (statuses_of Prove) _ _ c.in-Err.ensures.read.answers (reading_at run_reading _) c.in-Err.stop stopped c.refuse.ensures.refused
    (Circuit ∷ Script ∷ []) (c.args.circuit.now ∷ c.args.script.now ∷ []) _ c.in-Err.ensures.read.fetched

pub returns-in-Err-clause-status : goal.returns-in-Err-clause-status
returns-in-Err-clause-status g c =
    let stopped = same_stops Reads ReadsRun StopsRun c.in-Err.ensures.read.answers c.in-Err.stop c.in-Err.ensures.read.read in
    refused_status_in ReadsRun StopsRun (ProvesRun usual_limits) (statuses_of Prove) _ _ c.in-Err.ensures.read.answers (reading_at run_reading _) c.in-Err.stop stopped c.refuse.ensures.refused refl refl
