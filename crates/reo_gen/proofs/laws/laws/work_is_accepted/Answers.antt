use Rattle.reo_gen.proofs.laws.Accepting.{accepted-work}
use Rattle.reo_gen.proofs.laws.laws.work_is_accepted.Goals as goal

pub returns : goal.returns
returns c = accepted-work
