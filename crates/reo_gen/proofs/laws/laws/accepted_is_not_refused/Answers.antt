use Rattle.reo_gen.proofs.laws.Accepting.{not-refused}
use Rattle.reo_gen.proofs.laws.laws.accepted_is_not_refused.Goals as goal

pub returns : goal.returns
returns c = not-refused
