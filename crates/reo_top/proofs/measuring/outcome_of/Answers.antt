use Rattle.std.specs.Prelude.{None}
use Rattle.reo_command.specs.ReadSteps.{runnable_in}
use Rattle.reo_top.proofs.MeasureLemmas.{rounds_within}
use Rattle.reo_top.proofs.measuring.outcome_of.Goals as goal

pub returns-clause-few : goal.returns-clause-few
returns-clause-few c = rounds_within c.args.limits (runnable_in c.args.work.flat c.args.work.script) None None c.run.result c.run.ensures.came
