use Rattle.reo_refute_base.proofs.support_laws.Supporting.{support_is_by_rows}
use Rattle.reo_refute_base.proofs.support_laws.laws.support_is_by_rows.Goals as goal

pub returns : goal.returns
returns c = support_is_by_rows
