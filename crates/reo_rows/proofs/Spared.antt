-- Where all rows that lack a mark are idle, a side can do without them.
use Rattle.std.proofs.Common.{◌≡◌, ◌≢◌, ◌⊎◌, inl, inr, ◌↔◌, ℕ, ◌<◌, Bool, true, List, [], length, get_or, Some, None, refl, sym, subst, arith}
use Rattle.std.specs.Bool.{◌==◌}
use Rattle.std.proofs.lemmas.Bool.{both_ways, and_from, eq-eqb}
use Rattle.reo_values.specs.declared.value.Value.{Value}
use Rattle.reo_net_base.specs.declared.mark.Mark.{Mark}
use Rattle.reo_net_base.specs.Net.{Net}
use Rattle.reo_net_base.specs.Sides.{side_count}
use Rattle.reo_net_base.specs.Wired.{IsWired}
use Rattle.reo_net_laws.specs.Ends.{IsRowOf}
use Rattle.reo_joint_values.specs.Values.{Family}
use Rattle.reo_side_tables.specs.Listing.{Lists}
use Rattle.reo_side_tables.specs.Marks.{group_in, apart_in, end_at, mark_at_joint, common_at_joint, IsJointOf, IsApartAt}
use Rattle.reo_side_tables.proofs.Sides.{group_below, whole_row}
use Rattle.reo_rows.specs.declared.groups.Group.{Group}
use Rattle.reo_side_tables.specs.declared.sets.Marks.{Marks}
use Rattle.reo_rows.specs.declared.rows.Rows.{Rows}
use Rattle.reo_rows.specs.RowFlags.{flag}
use Rattle.reo_rows.specs.Stands.{HasMark}
use Rattle.reo_side_tables.specs.Sets.{marks_has}
use Rattle.reo_rows.specs.Groups.{live_in, AreNoted}
use Rattle.reo_rows.specs.Sparing.{IsIdle, IsLacking, CanSpare, AreCleared, GroupsHave}
use Rattle.reo_rows.specs.Rows.{AreTables, IsSpare, IsSpared}
use Rattle.reo_rows.specs.Beginning.{nothing_noted}
use Rattle.reo_rows.proofs.Codes.{flag_in}
use Rattle.reo_rows.proofs.Optional.{is_some_or_not}
use Rattle.reo_rows.proofs.Apart.{as_group}

-- A row with its flag is one of the table.
pub live_row : (net : Net) → IsWired net → (items : List (List Value)) (rows : Rows) → AreTables net items rows → (side : ℕ) → side < side_count net → (j : ℕ) → IsJointOf net side j → (row : ℕ) → flag rows.live side row ≡ true → IsRowOf net side row
live_row net wired items rows tables side lt j of row set =
    whole_row net wired side j row of (let place = flag_in rows.live side row set in omega (arith, place, tables.width side lt))

-- Where a row has its flag, its group has a note.
pub live_noted : (net : Net) → IsWired net → (side j : ℕ) → IsJointOf net side j → (live : List (List Bool)) (notes : List (List Group)) → AreNoted net live side notes → (row : ℕ) → IsRowOf net side row → flag live side row ≡ true
    → (d : Group) → (get_or (get_or notes side []) (group_in net side row) d).first ≢ None
live_noted net wired side j of live notes noted row in_table set d none =
    let here : live_in net live side (group_in net side row) row ≡ true = and_from (flag live side row) (group_in net side row == group_in net side row) set (eq-eqb (group_in net side row) (group_in net side row) refl) in
    both_ways (live_in net live side (group_in net side row) row) ((noted (group_in net side row) d (group_below net wired side j row of in_table)).none none row) here

module _ (net : Net) (wired : IsWired net) (family : Family) (items : List (List Value)) (side j : ℕ) (lt : side < side_count net) (of : IsJointOf net side j) (marks : Marks)
    (left : (m : Mark) → (marks_has marks m ≡ true) ↔ HasMark net family side j m) (old : Rows) (tables : AreTables net items old) (noted : AreNoted net old.live side old.notes)
    (list : List ℕ) (lists : Lists (IsApartAt net side (end_at net side j).end) list) (new : List (List Bool)) (cleared : AreCleared net side j marks list (length list) old.live new) where
  row_in : (row : ℕ) → flag new side row ≡ true → IsRowOf net side row
  row_in row set = live_row net wired items old tables side lt j of row (cleared.less row set)

  module _ (have : GroupsHave net (get_or old.notes side []) side j marks) where
    still_marked : (row : ℕ) → flag new side row ≡ true → HasMark net family side j (mark_at_joint net side row j)
    still_marked row set = elim (is_some_or_not (apart_in net side row) (end_at net side j).end) [
      | inl apart ↦
          let s = lists.whole row (record { in_table = row_in row set; apart = apart }) in
          let has : marks_has marks (mark_at_joint net side (get_or list s.0 0) j) ≡ true = cleared.gone s.0 s.1 (subst (λ (r : ℕ). flag new side r ≡ true) (sym s.2) set) in
          (left (mark_at_joint net side row j)).0 (subst (λ (r : ℕ). marks_has marks (mark_at_joint net side r j) ≡ true) s.2 has)
      | inr with ↦
          let group : ℕ = group_in net side row in
          let some = live_noted net wired side j of old.live old.notes noted row (row_in row set) (cleared.less row set) nothing_noted in
          as_group net wired side family row (row_in row set) j of with ((left (common_at_joint net side group j)).0 (have group nothing_noted (group_below net wired side j row of (row_in row set)) some))
    ]

    module _ (can : CanSpare net old.live (get_or old.notes side []) side j marks list) where
      spare : (row : ℕ) → flag old.live side row ≡ true → (flag new side row ≡ true) ⊎ IsSpare net family side j row old
      spare row set = elim (cleared.kept row set) [
        | inl stays ↦ inl stays
        | inr went ↦
            let s = went.0 in
            let at = lists.sound s.0 s.1 in
            inr (record {
              apart = subst (λ (r : ℕ). apart_in net side r ≡ Some (end_at net side j).end) s.2 at.apart;
              lacks = λ h. both_ways (marks_has marks (mark_at_joint net side row j)) went.1.lacks ((left (mark_at_joint net side row j)).1 h);
              idle = subst (λ (r : ℕ). IsIdle net side r (get_or old.notes side [])) s.2 (can s.0 s.1 (subst (λ (r : ℕ). IsLacking net old.live side j marks r) (sym s.2) went.1));
            })
      ]

      pub spared : IsSpared net family side j old (record old { live = new })
      spared = record {
        others = record { flags = λ s row other. cleared.others s row other; notes = λ s other. refl; less = cleared.less };
        notes = refl;
        seen = refl;
        kept = still_marked;
        gone = spare;
      }
