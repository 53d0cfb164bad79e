-- Groups that are held against the columns of a board.
use Rattle.std.proofs.Common.{◌≡◌, ◌≢◌, ◌↔◌, ℕ, ◌+◌, ◌*◌, ◌-◌, ◌<◌, ◌≤◌, true, List, length, get_or, take, drop, replicate, ap, sym, ◌∙◌, subst, arith, below_more, mul-le-mul_right, length-take, length-drop, get_or-take, get_or-drop}
use Rattle.std.proofs.lemmas.List.{length-replicate, get_or-replicate}
use Rattle.std.proofs.lemmas.Simd.{length-zip2, get_or-zip2}
use Rattle.reo_net_base.specs.declared.mark.Mark.{Mark}
use Rattle.reo_net_base.specs.Net.{Net}
use Rattle.reo_lanes.specs.Rows.{kept_row, kept_rows}
use Rattle.reo_joint_values.specs.Values.{Family}
use Rattle.reo_side_tables.specs.Boards.{AreColumns}
use Rattle.reo_side_tables.specs.Marks.{byte_of, groups_in, common_at_joint}
use Rattle.reo_side_tables.specs.declared.sets.Marks.{Marks}
use Rattle.reo_rows.specs.Stands.{HasMark}
use Rattle.reo_side_tables.specs.Sets.{marks_has, marks_byte}
use Rattle.reo_side_tables.proofs.Bytes.{kept_byte}

-- The bytes of the groups that stand at the first n joints are not 0.
pub record AreFitBelow (net : Net) (family : Family) (side : ℕ) (joints : List ℕ) (n : ℕ) (bytes : List ℕ) : Type 0 where
  pub one_each : length bytes ≡ groups_in net side
  pub fits : (group : ℕ) → group < groups_in net side → (get_or bytes group 0 ≢ 0)
      ↔ ((m : ℕ) → m < n → HasMark net family side (get_or joints m 0) (common_at_joint net side group (get_or joints m 0)))

module _ (net : Net) (family : Family) (side : ℕ) (joints : List ℕ) where
  pub fit_none : (bytes : List ℕ) → bytes ≡ replicate (groups_in net side) 1 → AreFitBelow net family side joints 0 bytes
  fit_none bytes ones = record {
    one_each = ap (λ (l : List ℕ). length l) ones ∙ length-replicate (groups_in net side) 1;
    fits = λ group lt. (
      λ h m none. absurd (omega arith),
      λ all e. let one : get_or bytes group 0 ≡ 1 = ap (λ (l : List ℕ). get_or l group 0) ones ∙ get_or-replicate (groups_in net side) group 1 0 lt in absurd (omega (arith, one, e)),
    );
  }

  pub fit_more : (n : ℕ) (old column : List ℕ) (marks : Marks) → AreFitBelow net family side joints n old → length column ≡ groups_in net side
      → ((group : ℕ) → group < groups_in net side → get_or column group 0 ≡ byte_of (common_at_joint net side group (get_or joints n 0)))
      → ((m : Mark) → (marks_has marks m ≡ true) ↔ HasMark net family side (get_or joints n 0) m)
      → AreFitBelow net family side joints (n + 1) (kept_rows column (marks_byte marks) old)
  fit_more n old column marks are long cells left = record {
    one_each = length-zip2 (kept_row (marks_byte marks)) column old (long ∙ sym are.one_each) ∙ long;
    fits = λ group lt.
        let mark : Mark = common_at_joint net side group (get_or joints n 0) in
        let is : get_or (kept_rows column (marks_byte marks) old) group 0 ≡ kept_row (marks_byte marks) (byte_of mark) (get_or old group 0) =
        get_or-zip2 (kept_row (marks_byte marks)) column old group 0 0 0 (omega (arith, long)) (omega (arith, are.one_each)) ∙ ap (λ (x : ℕ). kept_row (marks_byte marks) x (get_or old group 0)) (cells group lt) in
        let both = kept_byte mark marks (get_or old group 0) in (
          λ h.
              let kept = both.0 (λ e. h (is ∙ e)) in
              below_more (λ (m : ℕ). HasMark net family side (get_or joints m 0) (common_at_joint net side group (get_or joints m 0))) n ((are.fits group lt).0 kept.0) ((left mark).0 kept.1),
          λ all e.
              both.1 ((are.fits group lt).1 (λ m m_lt. all m (omega arith)), (left mark).1 (all n (omega arith))) (sym is ∙ e),
        );
  }

-- The bytes of a joint, cut out of the columns.
module _ (net : Net) (side : ℕ) (joints columns : List ℕ) (are : AreColumns net side joints columns) (m : ℕ) (lt : m < length joints) where
  abbrev pub column_cut : ℕ → List ℕ → List ℕ
  column_cut groups cells = take ((m + 1) * groups - m * groups) (drop (m * groups) cells)

  fits_in : m * groups_in net side + groups_in net side ≤ length columns
  fits_in =
      let more : (m + 1) * groups_in net side ≤ length joints * groups_in net side = mul-le-mul_right (groups_in net side) (omega arith) in
      omega (arith, more, are.size)

  pub cut_length : (groups : ℕ) (cells : List ℕ) → groups ≡ groups_in net side → cells ≡ columns → length (column_cut groups cells) ≡ groups_in net side
  cut_length groups cells same is =
      subst (λ (n : ℕ). length (column_cut n cells) ≡ groups_in net side) (sym same) (subst (λ (l : List ℕ). length (column_cut (groups_in net side) l) ≡ groups_in net side) (sym is)
      (simp (length-take, length-drop) (omega (arith, fits_in))))

  pub cut_cell : (groups : ℕ) (cells : List ℕ) → groups ≡ groups_in net side → cells ≡ columns → (group : ℕ) → group < groups_in net side
      → get_or (column_cut groups cells) group 0 ≡ byte_of (common_at_joint net side group (get_or joints m 0))
  cut_cell groups cells same is group g_lt =
      let n : ℕ = groups_in net side in
      let within : group < (m + 1) * n - m * n = omega arith in
      let here : get_or (column_cut n columns) group 0 ≡ get_or columns (m * n + group) 0 = get_or-take ((m + 1) * n - m * n) (drop (m * n) columns) group 0 within ∙ get_or-drop (m * n) columns group 0 in
      subst (λ (k : ℕ). get_or (column_cut k cells) group 0 ≡ byte_of (common_at_joint net side group (get_or joints m 0))) (sym same)
      (subst (λ (l : List ℕ). get_or (column_cut n l) group 0 ≡ byte_of (common_at_joint net side group (get_or joints m 0))) (sym is) (here ∙ are.cell m group lt g_lt))
