-- Rows that are held against the columns of their side.
use Rattle.std.proofs.Common.{◌≡◌, ◌≢◌, ◌↔◌, ℕ, ◌+◌, ◌<◌, Bool, true, false, List, length, get_or, refl, ap, sym, ◌∙◌, subst, arith, below_more}
use Rattle.std.proofs.lemmas.Simd.{length-zip2, get_or-zip2}
use Rattle.reo_net_base.specs.declared.mark.Mark.{Mark}
use Rattle.reo_net_base.specs.declared.joint.End.{End}
use Rattle.reo_net_base.specs.Net.{Net, all_sides, no_side, row_count, side_of_end}
use Rattle.reo_net_base.specs.Wired.{IsWired, IsEnd}
use Rattle.reo_net_laws.specs.Ends.{mark_in}
use Rattle.reo_net_laws.proofs.Sides.{side_at_is}
use Rattle.reo_lanes.specs.Rows.{kept_row, kept_rows}
use Rattle.reo_joint_values.specs.Values.{Family, no_joint}
use Rattle.reo_refute_parts.specs.places.AllowedRows.{AreMarked}
use Rattle.reo_refute_live.specs.declared.support.columns.Column.{Column}
use Rattle.reo_side_tables.specs.declared.sets.Marks.{Marks}
use Rattle.reo_refute_live.specs.support.Columns.{HasBytes, IsColumn, joint_end, no_column}
use Rattle.reo_refute_live.specs.support.Flows.{MarkStands}
use Rattle.reo_refute_live.specs.support.Marks.{HasMark}
use Rattle.reo_side_tables.specs.Marks.{byte_of}
use Rattle.reo_side_tables.specs.Sets.{marks_has, marks_byte}
use Rattle.reo_side_tables.proofs.Bytes.{kept_byte}

-- The end of a column is one of the circuit.
pub end_in : (net : Net) → IsWired net → (j : ℕ) → j < length net.joints → (gives : Bool) → IsEnd net.primitives (joint_end net j gives)
end_in net wired j lt true = wired.givers j no_joint lt
end_in net wired j lt false = wired.takers j no_joint lt

-- A column has a byte for each row of its side.
pub column_rows : (net : Net) → IsWired net → (side : ℕ) (column : Column) → IsColumn net side column → HasBytes net side column.marks
column_rows net wired side column is d =
    let e : End = joint_end net column.joint column.gives in
    let of : get_or (all_sides net.primitives) side d ≡ side_of_end net e =
    subst (λ (s : ℕ). get_or (all_sides net.primitives) s d ≡ side_of_end net e) is.at_side (side_at_is net wired e (end_in net wired column.joint is.in_range column.gives) d) in
    is.marks.one_each ∙ ap row_count (sym of)

-- The bytes that are left behind the first n columns.
abbrev pub AreLeft : Net → Family → List Column → ℕ → List ℕ → List ℕ → Type 0
AreLeft net family columns n old now =
    AreMarked (length old) (λ row. (get_or old row 0 ≢ 0) × ((m : ℕ) → m < n → MarkStands net family row (get_or columns m no_column))) now

module _ (net : Net) (family : Family) (columns : List Column) (old : List ℕ) where
  pub left_all : AreLeft net family columns 0 old old
  left_all = record { one_each = refl; exact = λ row lt. (λ x. (x, λ m m_lt. absurd (omega (arith, m_lt))), λ x. x.0) }

  pub left_more : (wired : IsWired net) (side n : ℕ) (now : List ℕ) (column : Column) (marks : Marks) → HasBytes net side old → AreLeft net family columns n old now
      → IsColumn net side column → column ≡ get_or columns n no_column
      → ((m : Mark) → (marks_has marks m ≡ true) ↔ HasMark family column.joint column.gives m)
      → AreLeft net family columns (n + 1) old (kept_rows column.marks (marks_byte marks) now)
  left_more wired side n now column marks bytes are is same left =
      let long : length column.marks ≡ length old = column_rows net wired side column is no_side ∙ sym (bytes no_side) in
      record {
        one_each = length-zip2 (kept_row (marks_byte marks)) column.marks now (long ∙ sym are.one_each) ∙ long;
        exact = λ row lt.
            let mark : Mark = mark_in net row (joint_end net column.joint column.gives) in
            let kept : get_or (kept_rows column.marks (marks_byte marks) now) row 0 ≡ kept_row (marks_byte marks) (byte_of mark) (get_or now row 0) =
            get_or-zip2 (kept_row (marks_byte marks)) column.marks now row 0 0 0 (omega (arith, long, lt)) (omega (arith, are.one_each, lt))
            ∙ ap (λ (x : ℕ). kept_row (marks_byte marks) x (get_or now row 0)) (is.marks.exact row (omega (arith, long, lt))) in
            let both = kept_byte mark marks (get_or now row 0) in
            let here : MarkStands net family row column ↔ MarkStands net family row (get_or columns n no_column) =
            (subst (MarkStands net family row) same, subst (MarkStands net family row) (sym same)) in (
              λ h.
                  let k = both.0 (λ e. h (kept ∙ e)) in
                  let x = (are.exact row lt).0 k.0 in
                  (x.0, below_more (λ (m : ℕ). MarkStands net family row (get_or columns m no_column)) n x.1 (here.0 ((left mark).0 k.1))),
              λ x e.
                  both.1 ((are.exact row lt).1 (x.0, λ m m_lt. x.1 m (omega (arith, m_lt))), (left mark).1 (here.1 (x.1 n (omega arith)))) (sym kept ∙ e),
            );
      }
