-- Rows whose marks are among those that ends may still have.
use Rattle.std.specs.Prelude.{ℕ, ◌+◌, ◌*◌, ◌<◌, ◌≡◌, Bool, true, false, List, length, slice_index, slice_index_or}
use Rattle.reo_net_base.specs.declared.joint.Joint.{Joint}
use Rattle.reo_net_base.specs.declared.form.Form.{Form}
use Rattle.reo_net_base.specs.declared.form.Form.TheVariants.{Single}
use Rattle.reo_net_base.specs.declared.table.Table.TheVariants.{Ready}
use Rattle.reo_net_base.specs.declared.mark.Mark.{Mark}
use Rattle.reo_net_base.specs.Behaviour.{IsEndOf}
use Rattle.reo_net_base.specs.Forms.{HasForm}
use Rattle.reo_net_base.specs.Net.{Net, mark_at, behaviour_at, end_of, first_side}
use Rattle.reo_net_base.specs.Sides.{side_count}
use Rattle.reo_net_laws.specs.Jams.{jams}
use Rattle.reo_net_laws.specs.Parts.{is_joint_inside}
use Rattle.reo_net_laws.specs.state_laws.Keys.{HaveForms}
use Rattle.reo_net_laws.specs.state_laws.States.{LetsIn, AreFitting}
use Rattle.reo_mark_sets.specs.declared.marks.PlainMarks.{PlainMarks}
use Rattle.reo_mark_sets.specs.PlainMarks.{has, marks_at, open_at, all_marks}
use Rattle.reo_mark_sets.specs.Standing.{AreFewer, is_usual}
use Rattle.reo_mark_search.specs.Spots.{spot_of}

-- At each joint of a set the marks of its two ends are among those that are left there.
pub record Fits (net : Net) (inside : ℕ → Bool) (sets : List PlainMarks) (rows : List ℕ) : Type 0 where
  pub giver : (j : ℕ) (d : Joint) → j < length net.joints
      → is_joint_inside net inside (slice_index_or net.joints j d) ≡ true
      → has (marks_at sets (2 * j)) (mark_at net rows (slice_index_or net.joints j d).giver) ≡ true
  pub taker : (j : ℕ) (d : Joint) → j < length net.joints
      → is_joint_inside net inside (slice_index_or net.joints j d) ≡ true
      → has (marks_at sets (2 * j + 1)) (mark_at net rows (slice_index_or net.joints j d).taker) ≡ true

-- Rows that fit on a set and jam none of its sides.
pub record IsRival (net : Net) (inside : ℕ → Bool) (rows : List ℕ) : Type 0 where
  pub fitting : AreFitting net inside rows
  pub no_jam : (k : ℕ) → k < side_count net → inside k ≡ true → jams net rows k ≡ false

-- Marks went, but none that such rows have.
pub record AreReduced (net : Net) (inside : ℕ → Bool) (old new : List PlainMarks) : Type 0 where
  pub one_each : length new ≡ length old
  pub fewer : AreFewer old new
  pub keeps : (rows : List ℕ) → IsRival net inside rows → Fits net inside old rows → Fits net inside new rows

-- No such rows have marks that are left.
abbrev pub HasNoRival : Net → (ℕ → Bool) → List PlainMarks → Type 0
HasNoRival net inside sets = (rows : List ℕ) → IsRival net inside rows → Fits net inside sets rows → ⊥

-- The forms of sides, by a list of all sides.
abbrev pub form_at : List Form → ℕ → Form
form_at forms k = slice_index_or forms k (Single Ready)

pub record AreNoted (net : Net) (inside : ℕ → Bool) (forms : List Form) : Type 0 where
  pub one_each : length forms ≡ side_count net
  pub have : HaveForms net inside (form_at forms)
  pub usual : (k : ℕ) → inside k ≡ true → is_usual (form_at forms k) ≡ true

-- Each end of the first sides of a list has all marks.
pub record AreReset (net : Net) (spots : List (List ℕ)) (sides : List ℕ) (n : ℕ) (sets : List PlainMarks) : Type 0 where
  pub all : (q i side end : ℕ) → q < n → i < length net.primitives → side < (behaviour_at net.primitives i).sides
      → slice_index sides q ≡ first_side net.primitives i + side
      → IsEndOf (behaviour_at net.primitives i) side end → marks_at sets (spot_of spots (end_of i end)) ≡ all_marks

-- The first sides of a list have forms, each of which lets each item in.
pub record AreOpenSides (net : Net) (sides : List ℕ) (n : ℕ) (forms : List Form) : Type 0 where
  pub form : (q i side : ℕ) → q < n → i < length net.primitives → side < (behaviour_at net.primitives i).sides
      → slice_index sides q ≡ first_side net.primitives i + side
      → HasForm (form_at forms (slice_index sides q)) (behaviour_at net.primitives i) side
  pub usual : (q : ℕ) → q < n → is_usual (form_at forms (slice_index sides q)) ≡ true
  pub lets_in : (q i side : ℕ) → q < n → i < length net.primitives → side < (behaviour_at net.primitives i).sides
      → slice_index sides q ≡ first_side net.primitives i + side → LetsIn (behaviour_at net.primitives i) side

-- The marks of the first sides of a list are just those of some rows, of which none is a jam row.
pub record ArePinned (net : Net) (spots : List (List ℕ)) (sides : List ℕ) (n : ℕ) (sets : List PlainMarks) (rows : List ℕ) : Type 0 where
  pub plain : (q i side : ℕ) → q < n → i < length net.primitives → side < (behaviour_at net.primitives i).sides
      → slice_index sides q ≡ first_side net.primitives i + side
      → slice_index rows (slice_index sides q) + 1 < (behaviour_at net.primitives i).rows side
  pub marks : (q i side end : ℕ) (mark : Mark) → q < n → i < length net.primitives
      → side < (behaviour_at net.primitives i).sides
      → slice_index sides q ≡ first_side net.primitives i + side
      → IsEndOf (behaviour_at net.primitives i) side end
      → has (marks_at sets (spot_of spots (end_of i end))) mark ≡ true
      → (behaviour_at net.primitives i).mark side (slice_index rows (slice_index sides q)) end ≡ mark

-- Each end of the first sides of a list has a mark that meets one at the other end of its joint.
pub record AreMet (net : Net) (spots : List (List ℕ)) (sides : List ℕ) (n : ℕ) (sets : List PlainMarks) : Type 0 where
  pub meet : (q i side end : ℕ) → q < n → i < length net.primitives → side < (behaviour_at net.primitives i).sides
      → slice_index sides q ≡ first_side net.primitives i + side
      → IsEndOf (behaviour_at net.primitives i) side end
      → (mark : Mark) × (has (open_at sets (spot_of spots (end_of i end))) mark ≡ true)
