use Rattle.reo_part_plans.proofs.FirstRows.{alike_same_rows}
use Rattle.reo_part_plans.proofs.laws.alike_same_rows.Goals as goal

pub returns : goal.returns
returns c = alike_same_rows
