-- Sifting one row after another.
use Rattle.std.proofs.Common.{◌≡◌, inl, inr, ℕ, ◌+◌, ◌<◌, ◌≤◌, true, List, sym, ◌∙◌, subst, arith}
use Rattle.std.specs.Bool.{◌==◌}
use Rattle.std.specs.Prelude.{nat_le}
use Rattle.std.proofs.lemmas.Bool.{cases_eq, and_parts}
use Rattle.std.proofs.lemmas.List.{get_or_default}
use Rattle.reo_values.specs.declared.value.Value.{Value}
use Rattle.reo_net_base.specs.Net.{Net, Side, all_sides, no_side, row_count}
use Rattle.reo_net_base.specs.Sides.{side_count}
use Rattle.reo_net_laws.specs.Ends.{IsRowOf}
use Rattle.reo_joint_values.specs.Values.{Names, Family}
use Rattle.reo_joint_values.specs.Works.{RowWorks}
use Rattle.reo_side_tables.specs.Marks.{side_in, group_in}
use Rattle.reo_rows.specs.declared.groups.Group.{Group}
use Rattle.reo_rows.specs.declared.rows.Rows.{Rows}
use Rattle.reo_rows.specs.RowFlags.{flag}
use Rattle.reo_rows.specs.Groups.{live_in}
use Rattle.reo_rows.specs.Rows.{AreTables}
use Rattle.reo_rows.specs.Sifting.{AreOdds, AreNotedFrom, AreRowsNoted, IsRowSifted, AreSiftedFrom}
use Rattle.reo_rows.proofs.Codes.{flag_in}

-- A row below the count of a side is one of its table.
pub row_of_side : (net : Net) (side row : ℕ) → side < side_count net → row < row_count (side_in net side) → IsRowOf net side row
row_of_side net side row lt row_lt d = subst (λ (s : Side). row < row_count s) (get_or_default (all_sides net.primitives) side no_side d lt) row_lt

-- A row with its flag is one of the table.
pub live_row : (net : Net) (items : List (List Value)) (rows : Rows) → AreTables net items rows → (side : ℕ) → side < side_count net → (row : ℕ) → flag rows.live side row ≡ true → IsRowOf net side row
live_row net items rows tables side lt row set = row_of_side net side row lt (let place = flag_in rows.live side row set in omega (arith, place, tables.width side lt))

-- So the rows that are noted are.
pub noted_rows : (net : Net) (items : List (List Value)) (rows : Rows) → AreTables net items rows → (side from : ℕ) → side < side_count net → (notes : List Group) → AreNotedFrom net rows.live side from notes → AreRowsNoted net side notes
noted_rows net items rows tables side from lt notes are group row d group_lt first =
    let here = (are group d group_lt).first row first in
    let both = and_parts (live_in net rows.live side group row) (nat_le from row) here in
    live_row net items rows tables side lt row (and_parts (flag rows.live side row) (group_in net side row == group) both.0).0

module _ (net : Net) (items : List (List Value)) (names : Names) (family : Family) (side n : ℕ) (start now new : Rows) (are : AreSiftedFrom net items names family side (n + 1) start now) (is : IsRowSifted net items names family side n now new) where
  now_works : (row : ℕ) → RowWorks net names family side row → flag new.live side row ≡ true
  now_works row works = elim (cases_eq row n) [
    | inl same ↦ subst (λ (r : ℕ). flag new.live side r ≡ true) (sym same) (is.works.1 (are.works n (subst (λ (r : ℕ). RowWorks net names family side r) same works), subst (λ (r : ℕ). RowWorks net names family side r) same works))
    | inr other ↦ is.rest row other ∙ are.works row works
  ]

  now_only : (row : ℕ) → n ≤ row → flag new.live side row ≡ true → RowWorks net names family side row
  now_only row le set = elim (cases_eq row n) [
    | inl same ↦ subst (λ (r : ℕ). RowWorks net names family side r) (sym same) (is.works.0 (subst (λ (r : ℕ). flag new.live side r ≡ true) same set)).1
    | inr other ↦ are.only row (omega arith) (sym (is.rest row other) ∙ set)
  ]

  -- One row more.
  pub sifted_more : AreSiftedFrom net items names family side n start new
  sifted_more = record {
    tables = is.tables;
    odds = subst (AreOdds net family side) (sym is.odds) are.odds;
    seen = is.seen ∙ are.seen;
    others = record {
      flags = λ s row other. is.others.flags s row other ∙ are.others.flags s row other;
      notes = λ s other. is.others.notes s other ∙ are.others.notes s other;
      less = λ row set. are.others.less row (is.others.less row set);
    };
    works = now_works;
    only = now_only;
    noted = is.noted are.noted;
  }
