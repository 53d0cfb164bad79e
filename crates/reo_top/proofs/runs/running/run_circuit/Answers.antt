use Rattle.std.proofs.Common.{List, [], ◌∷◌, refl}
use Rattle.reo_command.specs.declared.command.Command.TheVariants.{Run}
use Rattle.reo_command.specs.declared.role.Role.TheVariants.{Circuit, Script}
use Rattle.reo_top.specs.runs.Traces.{TracesRun}
use Rattle.reo_command.specs.declared.reading.CircuitAndScript.{CircuitAndScript}
use Rattle.reo_command.specs.Fetched.{Content}
use Rattle.reo_command.specs.Readings.{ReadsRun, StopsRun}
use Rattle.reo_command.specs.ReadSteps.{runnable_in}
use Rattle.reo_command.specs.Statuses.{statuses_of}
use Rattle.reo_command.proofs.top_base.AnswerLemmas.{refused_answered, refused_status_in, made_answered, made_status_in}
use Rattle.reo_command.proofs.ReadLemmas.{reading_at, same_stops}
use Rattle.reo_top.proofs.runs.RunLemmas.{trace_status, trace_not_three}
use Rattle.reo_command.proofs.WorkLemmas.{run_reading}
use Rattle.reo_top.proofs.runs.running.run_circuit.Goals as goal

-- What is read, as the code has it.
abbrev Reads : List Content → CircuitAndScript → Type 0
Reads answers work = ReadsRun answers (runnable_in work.flat work.script)

pub returns-in-Ok-clause-answered : goal.returns-in-Ok-clause-answered
returns-in-Ok-clause-answered g c =
    made_answered ReadsRun StopsRun (TracesRun c.args.limits) (statuses_of Run) _ _ c.in-Ok.ensures.read.answers (reading_at run_reading _) (runnable_in c.in-Ok.work.flat c.in-Ok.work.script) c.in-Ok.ensures.read.read
    c.write_trace.ensures.cases c.write_trace.ensures.exact (trace_not_three c.args.limits (runnable_in c.in-Ok.work.flat c.in-Ok.work.script))
    (Circuit ∷ Script ∷ []) (c.args.circuit.now ∷ c.args.script.now ∷ []) _ c.in-Ok.ensures.read.fetched

pub returns-in-Ok-clause-status : goal.returns-in-Ok-clause-status
returns-in-Ok-clause-status g c =
    made_status_in ReadsRun StopsRun (TracesRun c.args.limits) (statuses_of Run) _ _ c.in-Ok.ensures.read.answers (reading_at run_reading _) (runnable_in c.in-Ok.work.flat c.in-Ok.work.script) c.in-Ok.ensures.read.read
    c.write_trace.ensures.cases (trace_status c.args.limits (runnable_in c.in-Ok.work.flat c.in-Ok.work.script)) refl refl

pub returns-in-Err-clause-answered : goal.returns-in-Err-clause-answered
returns-in-Err-clause-answered g c =
    refused_answered ReadsRun StopsRun (TracesRun c.args.limits) (statuses_of Run) _ _ c.in-Err.ensures.read.answers (reading_at run_reading _) c.in-Err.stop (same_stops Reads ReadsRun StopsRun c.in-Err.ensures.read.answers c.in-Err.stop c.in-Err.ensures.read.read) c.refuse.ensures.refused
    (Circuit ∷ Script ∷ []) (c.args.circuit.now ∷ c.args.script.now ∷ []) _ c.in-Err.ensures.read.fetched

pub returns-in-Err-clause-status : goal.returns-in-Err-clause-status
returns-in-Err-clause-status g c =
    refused_status_in ReadsRun StopsRun (TracesRun c.args.limits) (statuses_of Run) _ _ c.in-Err.ensures.read.answers (reading_at run_reading _) c.in-Err.stop (same_stops Reads ReadsRun StopsRun c.in-Err.ensures.read.answers c.in-Err.stop c.in-Err.ensures.read.read) c.refuse.ensures.refused refl refl
