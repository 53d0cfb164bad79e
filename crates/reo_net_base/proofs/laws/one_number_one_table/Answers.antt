use Rattle.reo_net_base.proofs.Numbers.{one_table}
use Rattle.reo_net_base.proofs.laws.one_number_one_table.Goals as goal

pub returns : goal.returns
returns c = one_table
