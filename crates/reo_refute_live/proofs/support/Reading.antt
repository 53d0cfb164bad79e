-- What is read from columns.
use Rattle.std.proofs.Common.{◌≡◌, inl, inr, ℕ, ◌+◌, ◌<◌, Bool, true, false, List, [], ◌∷◌, ◌++◌, length, get_or, take, refl, ap, sym, ◌∙◌, subst, arith}
use Rattle.std.proofs.lemmas.List.{length-append, get_or_append_left, get_or_default}
use Rattle.std.proofs.Math.Seq.{get_or-append_seam, take-append_seam}
use Rattle.reo_net_base.specs.declared.mark.Mark.{Mark}
use Rattle.reo_net_base.specs.declared.mark.Mark.TheVariants.{F, G, R, J}
use Rattle.reo_net_base.specs.declared.joint.End.{End}
use Rattle.reo_net_base.specs.Behaviour.{Behaviour}
use Rattle.reo_net_base.specs.Net.{Net, no_side, behaviour_at, side_at}
use Rattle.reo_net_base.specs.Wired.{IsWired}
use Rattle.reo_net_laws.specs.Ends.{mark_in, IsRowOf}
use Rattle.std.proofs.lemmas.Bool.{cases_lt}
use Rattle.reo_joint_values.specs.Values.{joint_of}
use Rattle.reo_refute_live.specs.declared.support.columns.Column.{Column}
use Rattle.reo_refute_live.specs.support.Columns.{IsColumn, joint_end, no_column, AreColumns}
use Rattle.reo_side_tables.specs.Marks.{TakesFlow, GivesFlow}
use Rattle.reo_side_tables.specs.Marks.{byte_of}
use Rattle.reo_refute_live.proofs.support.Keeping.{column_rows}

pub mark_is : (net : Net) (e : End) (row : ℕ) (b : Behaviour) (s : ℕ) → b ≡ behaviour_at net.primitives e.primitive → s ≡ b.side_of e.end → b.mark s row e.end ≡ mark_in net row e
unfolding mark_in
mark_is net e row b s b_is s_is = rw (s_is, b_is) refl

-- One more byte.
pub byte_more : (f : ℕ → ℕ) (n : ℕ) (bytes new : List ℕ) (byte : ℕ) → new ≡ bytes ++ (byte ∷ []) → length bytes ≡ n → ((k : ℕ) → k < n → get_or bytes k 0 ≡ f k) → byte ≡ f n
    → (k : ℕ) → k < n + 1 → get_or new k 0 ≡ f k
byte_more f n bytes new byte is long below here k lt = ap (λ (l : List ℕ). get_or l k 0) is ∙ elim (cases_lt k n) [
  | inl less ↦ get_or_append_left bytes (byte ∷ []) 0 k (omega (arith, less, long)) ∙ below k less
  | inr from ↦
      let same : length bytes ≡ k = omega (arith, from, lt, long) in
      let n_is : n ≡ k = omega (arith, from, lt) in
      subst (λ (m : ℕ). get_or (bytes ++ (byte ∷ [])) m 0 ≡ f k) same (get_or-append_seam bytes byte [] 0 ∙ here ∙ ap f n_is)
]

pub byte_length : (n : ℕ) (bytes new : List ℕ) (byte : ℕ) → new ≡ bytes ++ (byte ∷ []) → length bytes ≡ n → length new ≡ n + 1
byte_length n bytes new byte is long = omega (arith, ap (λ (l : List ℕ). length l) is, length-append bytes (byte ∷ []), long)

byte_flow : (m : Mark) → byte_of m ≡ 1 → m ≡ F
byte_flow F e = refl
byte_flow G e = absurd (omega (arith, e))
byte_flow R e = absurd (omega (arith, e))
byte_flow J e = absurd (omega (arith, e))

-- A column that is read is that of its place.
pub column_same : (columns : List Column) (n : ℕ) (column : Column) → n < length columns → column ≡ get_or columns n column → column ≡ get_or columns n no_column
column_same columns n column lt is = is ∙ get_or_default columns n column no_column lt

pub column_is : (net : Net) (side : ℕ) (columns : List Column) → AreColumns net side columns → (n : ℕ) (column : Column) → n < length columns → column ≡ get_or columns n column → IsColumn net side column
column_is net side columns are n column lt is = subst (IsColumn net side) (sym (column_same columns n column lt is)) (are.each n lt)

-- What is left of bytes behind which others stood.
pub front_is : (n : ℕ) (xs ys : List ℕ) → n ≡ length xs → take n (xs ++ ys) ≡ xs
front_is n xs ys is = ap (λ (m : ℕ). take m (xs ++ ys)) is ∙ take-append_seam xs ys

module _ (net : Net) (wired : IsWired net) (side row : ℕ) (in_table : IsRowOf net side row) (column : Column) (is : IsColumn net side column) where
  pub row_in : row < length column.marks
  row_in = omega (arith, in_table no_side, column_rows net wired side column is no_side)

  mark_byte : get_or column.marks row 0 ≡ byte_of (mark_in net row (joint_end net column.joint column.gives))
  mark_byte = is.marks.exact row row_in

  flow_mark : get_or column.marks row 0 ≡ 1 → mark_in net row (joint_end net column.joint column.gives) ≡ F
  flow_mark one = byte_flow (mark_in net row (joint_end net column.joint column.gives)) (sym mark_byte ∙ one)

  pub gives_flow : column.gives ≡ true → get_or column.marks row 0 ≡ 1 → GivesFlow net side row column.joint
  gives_flow gives one = record {
    in_range = is.in_range;
    here = ap (λ (b : Bool). side_at net (joint_end net column.joint b)) (sym gives) ∙ is.at_side;
    flows = ap (λ (b : Bool). mark_in net row (joint_end net column.joint b)) (sym gives) ∙ flow_mark one;
  }

  pub takes_flow : column.gives ≡ false → get_or column.marks row 0 ≡ 1 → TakesFlow net side row column.joint
  takes_flow gives one = record {
    in_range = is.in_range;
    here = ap (λ (b : Bool). side_at net (joint_end net column.joint b)) (sym gives) ∙ is.at_side;
    flows = ap (λ (b : Bool). mark_in net row (joint_end net column.joint b)) (sym gives) ∙ flow_mark one;
  }

  pub flow_given : column.gives ≡ true → mark_in net row (joint_of net column.joint).giver ≡ F → get_or column.marks row 0 ≡ 1
  flow_given gives flows = mark_byte ∙ ap byte_of (ap (λ (b : Bool). mark_in net row (joint_end net column.joint b)) gives ∙ flows)

  pub flow_taken : column.gives ≡ false → mark_in net row (joint_of net column.joint).taker ≡ F → get_or column.marks row 0 ≡ 1
  flow_taken gives flows = mark_byte ∙ ap byte_of (ap (λ (b : Bool). mark_in net row (joint_end net column.joint b)) gives ∙ flows)
