use Rattle.reo_refute_base.proofs.laws.Supporting.{branch_or_single}
use Rattle.reo_refute_base.proofs.laws.laws.branch_or_single.Goals as goal

pub returns : goal.returns
returns c = branch_or_single
