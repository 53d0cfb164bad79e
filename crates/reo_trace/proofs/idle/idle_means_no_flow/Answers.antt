use Rattle.reo_trace.proofs.Still.{idle_ends, idle_from}
use Rattle.reo_trace.proofs.idle.idle_means_no_flow.Goals as goal

pub returns : goal.returns
returns c = λ net rows wired. (idle_ends net rows wired, idle_from net rows wired)
