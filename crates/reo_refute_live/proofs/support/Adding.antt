-- Tables of columns, joint after joint.
use Rattle.std.proofs.Common.{◌≡◌, inl, inr, ℕ, ◌+◌, ◌<◌, Bool, true, false, List, [], ◌∷◌, ◌++◌, length, get_or, replicate, ap, sym, ◌∙◌, subst, arith}
use Rattle.std.proofs.lemmas.Bool.{cases_eq, cases_lt}
use Rattle.std.proofs.lemmas.List.{length-append, length-set, length-replicate, get_or-replicate, get_or_append_left, get_or-set_same, get_or-set_other}
use Rattle.std.proofs.Math.Seq.{get_or-append_seam}
use Rattle.reo_net_base.specs.Net.{Net, side_at}
use Rattle.reo_net_base.specs.Sides.{side_count}
use Rattle.reo_joint_values.specs.Values.{giver_side, taker_side}
use Rattle.reo_refute_live.specs.declared.support.columns.Column.{Column}
use Rattle.reo_refute_live.specs.support.Columns.{AreMarksAt, IsColumnOf, IsColumn, HasColumn, AreTables, IsColumnAdded, joint_end, no_column}

-- For each side the columns at the first n joints, and those of givers at so many more.
pub record AreSoFar (net : Net) (givers takers : ℕ) (tables : List (List Column)) : Type 0 where
  pub one_each : length tables ≡ side_count net
  pub each : (side : ℕ) → side < side_count net → (m : ℕ) → m < length (get_or tables side []) → IsColumn net side (get_or (get_or tables side []) m no_column)
  pub giving : (j side : ℕ) → side < side_count net → j < givers → giver_side net j ≡ side → HasColumn (get_or tables side []) j true
  pub taking : (j side : ℕ) → side < side_count net → j < takers → taker_side net j ≡ side → HasColumn (get_or tables side []) j false

pub so_far_none : (net : Net) (tables : List (List Column)) → tables ≡ replicate (side_count net) [] → AreSoFar net 0 0 tables
so_far_none net tables are = record {
  one_each = ap (λ (l : List (List Column)). length l) are ∙ length-replicate (side_count net) [];
  each = λ side lt m m_lt.
      let none : get_or tables side [] ≡ [] = ap (λ (l : List (List Column)). get_or l side []) are ∙ get_or-replicate (side_count net) side [] [] lt in
      let bad : m < length {A = Column} [] = subst (λ (l : List Column). m < length l) none m_lt in
      absurd (omega (arith, bad));
  giving = λ j side s_lt lt. absurd (omega (arith, lt));
  taking = λ j side s_lt lt. absurd (omega (arith, lt));
}

module _ (columns : List Column) (column : Column) where
  seam : get_or (columns ++ (column ∷ [])) (length columns) no_column ≡ column
  seam = get_or-append_seam columns column [] no_column

  column_there : (j : ℕ) (gives : Bool) → HasColumn columns j gives → HasColumn (columns ++ (column ∷ [])) j gives
  column_there j gives h =
      let same : get_or (columns ++ (column ∷ [])) h.place no_column ≡ get_or columns h.place no_column = get_or_append_left columns (column ∷ []) no_column h.place h.in_range in
      record {
        place = h.place;
        in_range = omega (arith, h.in_range, length-append columns (column ∷ []));
        joint = ap (λ (c : Column). c.joint) same ∙ h.joint;
        gives_is = ap (λ (c : Column). c.gives) same ∙ h.gives_is;
      }

  column_last : HasColumn (columns ++ (column ∷ [])) column.joint column.gives
  column_last = record {
    place = length columns;
    in_range = omega (arith, length-append columns (column ∷ []));
    joint = ap (λ (c : Column). c.joint) seam;
    gives_is = ap (λ (c : Column). c.gives) seam;
  }

  each_more : (Is : Column → Type 0) → Is column → ((m : ℕ) → m < length columns → Is (get_or columns m no_column))
      → (m : ℕ) → m < length (columns ++ (column ∷ [])) → Is (get_or (columns ++ (column ∷ [])) m no_column)
  each_more Is last each m lt = elim (cases_lt m (length columns)) [
    | inl below ↦ subst Is (sym (get_or_append_left columns (column ∷ []) no_column m below)) (each m below)
    | inr from ↦
        let same : length columns ≡ m = omega (arith, from, lt, length-append columns (column ∷ [])) in
        subst (λ (k : ℕ). Is (get_or (columns ++ (column ∷ [])) k no_column)) same (subst Is (sym seam) last)
  ]

is_column : (net : Net) (j : ℕ) (gives : Bool) (column : Column) → j < length net.joints → IsColumnOf net j gives column → IsColumn net (side_at net (joint_end net j gives)) column
is_column net j gives column lt is = record {
  in_range = subst (λ (i : ℕ). i < length net.joints) (sym is.joint) lt;
  at_side = ap (λ (i : ℕ). side_at net (joint_end net i column.gives)) is.joint ∙ ap (λ (b : Bool). side_at net (joint_end net j b)) is.gives_is;
  marks = subst (λ (i : ℕ). AreMarksAt net (joint_end net i column.gives) column.marks) (sym is.joint) (subst (λ (b : Bool). AreMarksAt net (joint_end net j b) column.marks) (sym is.gives_is) is.marks);
}

module _ (net : Net) (j : ℕ) (gives : Bool) (lt : j < length net.joints) (givers takers : ℕ) (old new : List (List Column))
    (are : AreSoFar net givers takers old) (added : IsColumnAdded net j gives old new) where
  abbrev here : ℕ
  here = side_at net (joint_end net j gives)

  abbrev Kept : List (List Column) → Type 0
  Kept tables = (k side : ℕ) (b : Bool) → HasColumn (get_or old side []) k b → HasColumn (get_or tables side []) k b

  module _ (in_range : here < side_count net) where
    at_here : get_or new here [] ≡ get_or old here [] ++ (added.column ∷ [])
    at_here = ap (λ (l : List (List Column)). get_or l here []) added.after ∙ get_or-set_same old here (get_or old here [] ++ (added.column ∷ [])) [] (omega (arith, in_range, are.one_each))

    at_other : (side : ℕ) → (side ≡ here → ⊥) → get_or new side [] ≡ get_or old side []
    at_other side off = ap (λ (l : List (List Column)). get_or l side []) added.after ∙ get_or-set_other old here side (get_or old here [] ++ (added.column ∷ [])) [] off

    pub kept : Kept new
    kept k side b h = elim (cases_eq side here) [
      | inl same ↦
          subst (λ (s : ℕ). HasColumn (get_or new s []) k b) (sym same)
          (subst (λ (l : List Column). HasColumn l k b) (sym at_here) (column_there (get_or old here []) added.column k b (subst (λ (s : ℕ). HasColumn (get_or old s []) k b) same h)))
      | inr off ↦ subst (λ (l : List Column). HasColumn l k b) (sym (at_other side off)) h
    ]

    pub new_there : HasColumn (get_or new here []) j gives
    new_there =
        subst (λ (l : List Column). HasColumn l j gives) (sym at_here)
        (subst (λ (b : Bool). HasColumn (get_or old here [] ++ (added.column ∷ [])) j b) added.is.gives_is
        (subst (λ (i : ℕ). HasColumn (get_or old here [] ++ (added.column ∷ [])) i added.column.gives) added.is.joint (column_last (get_or old here []) added.column)))

    pub each_new : (side : ℕ) → side < side_count net → (m : ℕ) → m < length (get_or new side []) → IsColumn net side (get_or (get_or new side []) m no_column)
    each_new side s_lt = elim (cases_eq side here) [
      | inl same ↦
          subst (λ (s : ℕ). (m : ℕ) → m < length (get_or new s []) → IsColumn net s (get_or (get_or new s []) m no_column)) (sym same)
          (subst (λ (l : List Column). (m : ℕ) → m < length l → IsColumn net here (get_or l m no_column)) (sym at_here)
          (each_more (get_or old here []) added.column (IsColumn net here) (is_column net j gives added.column lt added.is) (are.each here in_range)))
      | inr off ↦ subst (λ (l : List Column). (m : ℕ) → m < length l → IsColumn net side (get_or l m no_column)) (sym (at_other side off)) (are.each side s_lt)
    ]

    pub same_length : length new ≡ side_count net
    same_length = ap (λ (l : List (List Column)). length l) added.after ∙ length-set old here (get_or old here [] ++ (added.column ∷ [])) ∙ are.one_each

-- One more giver, one more taker.
pub so_far_giver : (net : Net) (j : ℕ) → j < length net.joints → giver_side net j < side_count net → (old new : List (List Column))
    → AreSoFar net j j old → IsColumnAdded net j true old new → AreSoFar net (j + 1) j new
so_far_giver net j lt in_range old new are added = record {
  one_each = same_length net j true lt j j old new are added in_range;
  each = each_new net j true lt j j old new are added in_range;
  giving = λ k side s_lt k_lt at. elim (cases_lt k j) [
    | inl below ↦ kept net j true lt j j old new are added in_range k side true (are.giving k side s_lt below at)
    | inr from ↦
        let same : j ≡ k = omega (arith, from, k_lt) in
        subst (λ (s : ℕ). HasColumn (get_or new s []) k true) at
        (subst (λ (i : ℕ). HasColumn (get_or new (giver_side net i) []) i true) same (new_there net j true lt j j old new are added in_range))
  ];
  taking = λ k side s_lt k_lt at. kept net j true lt j j old new are added in_range k side false (are.taking k side s_lt k_lt at);
}

pub so_far_taker : (net : Net) (j : ℕ) → j < length net.joints → taker_side net j < side_count net → (old new : List (List Column))
    → AreSoFar net (j + 1) j old → IsColumnAdded net j false old new → AreSoFar net (j + 1) (j + 1) new
so_far_taker net j lt in_range old new are added = record {
  one_each = same_length net j false lt (j + 1) j old new are added in_range;
  each = each_new net j false lt (j + 1) j old new are added in_range;
  giving = λ k side s_lt k_lt at. kept net j false lt (j + 1) j old new are added in_range k side true (are.giving k side s_lt k_lt at);
  taking = λ k side s_lt k_lt at. elim (cases_lt k j) [
    | inl below ↦ kept net j false lt (j + 1) j old new are added in_range k side false (are.taking k side s_lt below at)
    | inr from ↦
        let same : j ≡ k = omega (arith, from, k_lt) in
        subst (λ (s : ℕ). HasColumn (get_or new s []) k false) at
        (subst (λ (i : ℕ). HasColumn (get_or new (taker_side net i) []) i false) same (new_there net j false lt (j + 1) j old new are added in_range))
  ];
}

pub so_far_all : (net : Net) (n : ℕ) (tables : List (List Column)) → n ≡ length net.joints → AreSoFar net n n tables → AreTables net tables
so_far_all net n tables is are = record {
  one_each = are.one_each;
  columns = λ side lt. record {
    each = are.each side lt;
    givers = λ j j_lt at. are.giving j side lt (omega (arith, j_lt, is)) at;
    takers = λ j j_lt at. are.taking j side lt (omega (arith, j_lt, is)) at;
  };
}
