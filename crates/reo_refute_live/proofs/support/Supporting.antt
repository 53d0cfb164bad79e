-- Support by the bytes of rows.
use Rattle.std.proofs.Common.{◌≡◌, ◌≢◌, ◌↔◌, ℕ, ◌<◌, true, List, length, get_or, arith}
use Rattle.reo_net_base.specs.Net.{Net, no_side}
use Rattle.reo_net_base.specs.Wired.{IsWired}
use Rattle.reo_joint_values.specs.declared.value.JointValue.{JointValue}
use Rattle.reo_joint_values.specs.Values.{Names, Family, AtSide}
use Rattle.reo_refute_base.specs.Live.{alone, HasSupport}
use Rattle.reo_refute_base.specs.Places.{IsAllowed}
use Rattle.reo_refute_parts.specs.places.AllowedRows.{AreMarked, AreBytes}
use Rattle.reo_refute_base.specs.support_laws.Rows.{SupportingRow, SupportIsByRows}
use Rattle.reo_refute_live.specs.declared.support.columns.Column.{Column}
use Rattle.reo_refute_live.specs.support.Columns.{AreColumns}
use Rattle.reo_refute_live.specs.support.Flows.{MarksStand, StandingRow}
use Rattle.reo_refute_live.proofs.support.Working.{works_by_columns}

module _ (law : SupportIsByRows) (net : Net) (wired : IsWired net) (turn : ℕ) (given : List ℕ) (p : ℕ) (names : Names) (live : Family) (side j : ℕ) (v : JointValue)
    (lt : j < length net.joints) (at : AtSide net j side) (is : live j v ≡ true) (columns : List Column) (are : AreColumns net side columns)
    (allowed rows : List ℕ) (allowed_are : AreBytes net side (IsAllowed net turn given p side) allowed)
    (kept : AreMarked (length allowed) (λ row. (get_or allowed row 0 ≢ 0) × MarksStand net (alone live j v) row columns) rows) where
  row_of : (row : ℕ) → row < length allowed → get_or allowed row 0 ≢ 0 → IsAllowed net turn given p side row
  row_of row row_lt set = ((allowed_are no_side).exact row (omega (arith, row_lt, (allowed_are no_side).one_each))).0 set

  supporting : StandingRow net names (alone live j v) side columns rows → SupportingRow net names (IsAllowed net turn given p) live side j v
  supporting s =
      let row_lt : s.row < length allowed = omega (arith, s.in_range, kept.one_each) in
      let x = (kept.exact s.row row_lt).0 s.set in
      let a : IsAllowed net turn given p side s.row = row_of s.row row_lt x.0 in
      record { row = s.row; allowed_row = a; works = (works_by_columns net wired names (alone live j v) side s.row columns are).1 (a.in_table, (x.1, s.stands)) }

  standing : SupportingRow net names (IsAllowed net turn given p) live side j v → StandingRow net names (alone live j v) side columns rows
  standing s =
      let w = (works_by_columns net wired names (alone live j v) side s.row columns are).0 s.works in
      let row_lt : s.row < length allowed = omega (arith, s.allowed_row.in_table no_side, (allowed_are no_side).one_each) in
      let set : get_or allowed s.row 0 ≢ 0 = ((allowed_are no_side).exact s.row (s.allowed_row.in_table no_side)).1 s.allowed_row in
      record { row = s.row; in_range = omega (arith, row_lt, kept.one_each); set = (kept.exact s.row row_lt).1 (set, w.1.0); stands = w.1.1 }

  pub support_by_bytes : StandingRow net names (alone live j v) side columns rows ↔ HasSupport net names (IsAllowed net turn given p) live side j v
  support_by_bytes =
      let by = law net wired turn given p names live side j v lt at is in
      (λ s. by.1 (supporting s), λ h. standing (by.0 h))
