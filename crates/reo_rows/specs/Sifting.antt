-- While the rows of a side are sifted, from the last on.
use Rattle.std.specs.Prelude.{ℕ, ◌+◌, ◌<◌, ◌≤◌, ◌≡◌, ◌≢◌, ◌↔◌, ◌&&◌, nat_le, Bool, true, Some, List, [], length, slice_index_or}
use Rattle.reo_values.specs.declared.value.Value.{Value}
use Rattle.reo_net_base.specs.Net.{Net}
use Rattle.reo_net_laws.specs.Ends.{IsRowOf}
use Rattle.reo_joint_values.specs.Values.{Names, Family}
use Rattle.reo_joint_values.specs.Works.{RowWorks}
use Rattle.reo_side_tables.specs.Marks.{groups_in}
use Rattle.reo_rows.specs.declared.groups.Group.{Group}
use Rattle.reo_rows.specs.declared.groups.Odd.{Odd}
use Rattle.reo_rows.specs.declared.rows.Rows.{Rows}
use Rattle.reo_rows.specs.RowFlags.{flag}
use Rattle.reo_rows.specs.Groups.{live_in, IsNotedOf, IsOdd}
use Rattle.reo_rows.specs.Rows.{AreTables, AreLive, OtherSidesStay}

-- For each group of a side where it has the mark of no value.
pub record AreOdds (net : Net) (family : Family) (side : ℕ) (odds : List Odd) : Type 0 where
  pub one_each : length odds ≡ groups_in net side
  pub odd : (group : ℕ) (d : Odd) → group < groups_in net side → IsOdd net family side group (slice_index_or odds group d)

-- The rows from one on of a group that have their flags.
abbrev pub live_from : Net → List (List Bool) → ℕ → ℕ → ℕ → ℕ → Bool
live_from net live side group from row = live_in net live side group row && nat_le from row

-- Each group of a side is noted, as far as its rows from one on go.
abbrev pub AreNotedFrom : Net → List (List Bool) → ℕ → ℕ → List Group → Type 0
AreNotedFrom net live side from notes = (group : ℕ) (d : Group) → group < groups_in net side
    → IsNotedOf net side (live_from net live side group from) (slice_index_or notes group d)

-- The rows that are noted first are rows of the side.
abbrev pub AreRowsNoted : Net → ℕ → List Group → Type 0
AreRowsNoted net side notes = (group row : ℕ) (d : Group) → group < groups_in net side
    → (slice_index_or notes group d).first ≡ Some row → IsRowOf net side row

-- A row of a side that does not work has lost its flag, and one that does is noted.
pub record IsRowSifted (net : Net) (items : List (List Value)) (names : Names) (family : Family) (side row : ℕ) (old new : Rows)
    : Type 0 where
  pub tables : AreTables net items new
  pub odds : new.odds ≡ old.odds
  pub seen : new.seen ≡ old.seen
  pub others : OtherSidesStay side old new
  pub rest : (r : ℕ) → r ≢ row → flag new.live side r ≡ flag old.live side r
  pub works : (flag new.live side row ≡ true) ↔ ((flag old.live side row ≡ true) × RowWorks net names family side row)
  pub noted : AreNotedFrom net old.live side (row + 1) (slice_index_or old.notes side [])
      → AreNotedFrom net new.live side row (slice_index_or new.notes side [])

-- The rows of a side from one on are sifted.
pub record AreSiftedFrom (net : Net) (items : List (List Value)) (names : Names) (family : Family) (side from : ℕ) (start now : Rows)
    : Type 0 where
  pub tables : AreTables net items now
  pub odds : AreOdds net family side now.odds
  pub seen : now.seen ≡ start.seen
  pub others : OtherSidesStay side start now
  pub works : AreLive net names family side now
  pub only : (row : ℕ) → from ≤ row → flag now.live side row ≡ true → RowWorks net names family side row
  pub noted : AreNotedFrom net now.live side from (slice_index_or now.notes side [])
