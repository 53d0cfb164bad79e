-- Rows of the sides of a set.
use Rattle.std.proofs.Common.{◌≡◌, ◌∙◌, ℕ, ◌<◌, Bool, List, get_or, ap, subst, sym}
use Rattle.reo_net_base.specs.Net.{Net, Side, all_sides, row_at, row_count, side_at, side_of_end}
use Rattle.reo_net_base.specs.Wired.{IsWired}
use Rattle.reo_net_laws.proofs.Sides.{row_in_table, row_is, side_in_range}
use Rattle.reo_joint_values.specs.Standing.{giver_of, no_joint}
use Rattle.reo_joint_values.specs.Many.{IsJointIn}
use Rattle.reo_flows.specs.flowing.Flowing.{AreRowsIn}

-- The row of the giver of a joint of the set is in its table.
pub row_there : (net : Net) → IsWired net → (inside : ℕ → Bool) (rows : List ℕ) → AreRowsIn net inside rows → (j : ℕ) → IsJointIn net inside j
    → row_at net rows (giver_of net j) < row_count (side_of_end net (giver_of net j))
row_there net wired inside rows are j is =
    let e = giver_of net j in
    let e_in = wired.givers j no_joint is.0 in
    row_in_table net wired e e_in rows (side_of_end net e) (are.in_tables (side_at net e) (side_of_end net e) (side_in_range net wired e e_in) is.1)
