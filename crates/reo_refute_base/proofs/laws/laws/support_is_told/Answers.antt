use Rattle.reo_refute_base.proofs.laws.Supporting.{support_is_told}
use Rattle.reo_refute_base.proofs.laws.laws.support_is_told.Goals as goal

pub returns : goal.returns
returns c = support_is_told
