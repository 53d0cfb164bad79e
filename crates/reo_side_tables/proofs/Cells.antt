-- Columns that are filled cell by cell.
use Rattle.std.proofs.Common.{◌≡◌, ℕ, ◌+◌, ◌*◌, ◌<◌, ◌≤◌, inl, inr, List, [], ◌∷◌, ◌++◌, length, get_or, ap, sym, ◌∙◌, subst, arith, length-append}
use Rattle.std.proofs.lemmas.Bool.{cases_eq}
use Rattle.std.proofs.lemmas.Nat.{mul-le}
use Rattle.std.proofs.Math.Seq.{get_or-append_seam}
use Rattle.std.proofs.lemmas.List.{get_or_append_left}
use Rattle.reo_net_base.specs.Net.{Net}
use Rattle.reo_side_tables.specs.Boards.{AreColumns}
use Rattle.reo_side_tables.specs.Marks.{byte_of, groups_in, common_at_joint}

-- The byte of a group at the m-th of some joints.
abbrev pub byte_at : Net → ℕ → List ℕ → ℕ → ℕ → ℕ
byte_at net side joints m group = byte_of (common_at_joint net side group (get_or joints m 0))

-- The columns of the first n joints, and of one more the cells of the first groups.
pub record AreCells (net : Net) (side : ℕ) (joints : List ℕ) (n done : ℕ) (columns : List ℕ) : Type 0 where
  pub size : length columns ≡ n * groups_in net side + done
  pub cell : (m group : ℕ) → m < n → group < groups_in net side → get_or columns (m * groups_in net side + group) 0 ≡ byte_at net side joints m group
  pub last : (group : ℕ) → group < done → get_or columns (n * groups_in net side + group) 0 ≡ byte_at net side joints n group

-- A cell of an earlier column stands before those of a later one.
earlier : (groups m n group : ℕ) → m < n → group < groups → m * groups + group < n * groups
earlier groups m n group lt in_groups =
    let whole : (m + 1) * groups ≤ n * groups = mul-le (m + 1) groups n groups (omega arith) (omega arith) in
    omega (arith, whole)

module _ (net : Net) (side : ℕ) (joints : List ℕ) where
  pub cells_none : AreCells net side joints 0 0 []
  cells_none = record { size = omega arith; cell = λ m group lt in_groups. absurd (omega arith); last = λ group lt. absurd (omega arith) }

  pub cells_more : (n done cell : ℕ) (columns : List ℕ) → AreCells net side joints n done columns → cell ≡ byte_at net side joints n done → AreCells net side joints n (done + 1) (columns ++ cell ∷ [])
  cells_more n done cell columns are is = record {
    size = length-append columns (cell ∷ []) ∙ omega (arith, are.size);
    cell = λ m group lt in_groups.
        let before : m * groups_in net side + group < length columns = omega (arith, earlier (groups_in net side) m n group lt in_groups, are.size) in
        get_or_append_left columns (cell ∷ []) 0 (m * groups_in net side + group) before ∙ are.cell m group lt in_groups;
    last = λ group lt. elim (cases_eq group done) [
      | inl same ↦
          let place : n * groups_in net side + group ≡ length columns = omega (arith, are.size, same) in
          rw place (get_or-append_seam columns cell [] 0) ∙ is ∙ ap (byte_at net side joints n) (sym same)
      | inr other ↦
          let before : n * groups_in net side + group < length columns = omega (arith, are.size) in
          get_or_append_left columns (cell ∷ []) 0 (n * groups_in net side + group) before ∙ are.last group (omega arith)
    ];
  }

  pub cells_next : (n : ℕ) (columns : List ℕ) → AreCells net side joints n (groups_in net side) columns → AreCells net side joints (n + 1) 0 columns
  cells_next n columns are = record {
    size = are.size ∙ omega arith;
    cell = λ m group lt in_groups. elim (cases_eq m n) [
      | inl same ↦ subst (λ (x : ℕ). get_or columns (x * groups_in net side + group) 0 ≡ byte_at net side joints x group) (sym same) (are.last group in_groups)
      | inr other ↦ are.cell m group (omega arith) in_groups
    ];
    last = λ group lt. absurd (omega arith);
  }

  pub cells_all : (columns : List ℕ) → AreCells net side joints (length joints) 0 columns → AreColumns net side joints columns
  cells_all columns are = record { size = are.size ∙ omega arith; cell = are.cell }
