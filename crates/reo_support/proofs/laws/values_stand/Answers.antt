use Rattle.reo_support.proofs.Rows.{value_stands}
use Rattle.reo_support.proofs.laws.values_stand.Goals as goal

pub returns : goal.returns
returns c = λ net wired names inside sets knot supported single j side v lt at is h.
    let s = value_stands net wired names inside sets knot supported single j side v lt at is h in
    record { rows = s.2.rows; choice = s.2.choice; chosen = s.2.chosen; value_is = s.3 }
