use Rattle.reo_refute_base.proofs.laws.Reading.{branches_are_read}
use Rattle.reo_refute_base.proofs.laws.laws.branches_are_read.Goals as goal

pub returns : goal.returns
returns c = branches_are_read
