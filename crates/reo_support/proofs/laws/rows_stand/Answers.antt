use Rattle.reo_support.proofs.Rows.{row_stands}
use Rattle.reo_support.proofs.laws.rows_stand.Goals as goal

pub returns : goal.returns
returns c = λ net wired names inside sets knot supported single side row is works.
    let s = row_stands net wired names inside sets knot supported single side row is works in
    record { rows = s.1.rows; choice = s.1.choice; chosen = s.1.chosen; row_is = s.1.row_is }
