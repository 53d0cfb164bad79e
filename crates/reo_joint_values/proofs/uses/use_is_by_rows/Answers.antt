use Rattle.reo_joint_values.proofs.Works.{used_row, used_value, value_used}
use Rattle.reo_joint_values.proofs.uses.use_is_by_rows.Goals as goal

pub returns : goal.returns
returns c = λ net wired names family side j v lt at has. (
  λ u. record { row = u.row; works = used_row net wired names family side j v lt at u; goes = used_value net wired names family side j v lt at u },
  λ w. value_used net wired names family side j v lt at w.row has w.works w.goes,
)
