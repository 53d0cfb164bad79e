use Rattle.reo_command.specs.ReadSteps.{runnable_in}
use Rattle.reo_command.specs.States.{sink_change}
use Rattle.reo_top.specs.Measures.{MeasuresMade}
use Rattle.reo_command.proofs.top_base.CaseLemmas.{no_memory_cases}
use Rattle.reo_top.proofs.MeasureLemmas.{made_cases, made_exact, made_status}
use Rattle.reo_top.proofs.measuring.measure_work.Goals as goal

pub returns-in-Ok-clause-cases : goal.returns-in-Ok-clause-cases
returns-in-Ok-clause-cases g c = made_cases c.args.size _ _ (runnable_in c.in-Ok.work.flat c.in-Ok.work.script) c.in-Ok.ensures.read c.write_measure.ensures.cases

pub returns-in-Ok-clause-exact : goal.returns-in-Ok-clause-exact
returns-in-Ok-clause-exact g c =
    made_exact c.args.size (sink_change g.S.Sink.told g.S.Sink.faults c.args.out.now c.write_measure.new.out) c.write_measure.result.code (runnable_in c.in-Ok.work.flat c.in-Ok.work.script) c.in-Ok.ensures.read c.write_measure.ensures.exact

pub returns-in-Ok-clause-status : goal.returns-in-Ok-clause-status
returns-in-Ok-clause-status g c = made_status c.args.size _ _ (runnable_in c.in-Ok.work.flat c.in-Ok.work.script) c.write_measure.ensures.cases

pub returns-in-Err-clause-cases : goal.returns-in-Err-clause-cases
returns-in-Err-clause-cases g c = no_memory_cases _ _ (MeasuresMade c.args.size) c.no_memory.ensures.says
