-- What may be wrong with rows and items for a circuit.
use Rattle.std.specs.Prelude.{ℕ, ◌+◌, ◌<◌, ◌≤◌, ◌≡◌, ◌≢◌, ◌⊎◌, false, List, Option, Some, None, length, slice_index, slice_index_or}
use Rattle.reo_values.specs.declared.value.Value.{Value}
use Rattle.reo_net_base.specs.declared.joint.Joint.{Joint as JointEnds}
use Rattle.reo_net_base.specs.declared.mark.Mark.TheVariants.{F}
use Rattle.reo_net_base.specs.Marks.{marks_match}
use Rattle.reo_net_base.specs.Net.{Net, behaviour_at, first_side, mark_at}
use Rattle.reo_net_base.specs.Sides.{side_count, AreRowsOf}
use Rattle.reo_net_base.specs.Colouring.{JointMatches, given_at, lets_in, ItemFits, RowsFit}
use Rattle.reo_checker.specs.declared.wrong.Wrong.{Wrong}
use Rattle.reo_checker.specs.declared.wrong.Wrong.TheVariants.{Count, Row, Joint, Item}

-- The row of a side of a primitive.
abbrev pub side_row : Net → List ℕ → ℕ → ℕ → ℕ
side_row net rows i side = slice_index rows (first_side net.primitives i + side)

-- Each row of a primitive is in the table of its side.
abbrev pub HasRows : Net → List ℕ → ℕ → Type 0
HasRows net rows i =
    (side : ℕ) → side < (behaviour_at net.primitives i).sides
    → side_row net rows i side < (behaviour_at net.primitives i).rows side

-- Some row of a primitive is out of the table of its side.
pub record HasRowOut (net : Net) (rows : List ℕ) (i : ℕ) : Type 0 where
  pub side : ℕ
  pub is_side : side < (behaviour_at net.primitives i).sides
  pub out : (behaviour_at net.primitives i).rows side ≤ side_row net rows i side

-- The marks of a joint's two ends break the joint rule.
abbrev pub JointClashes : Net → List ℕ → JointEnds → Type 0
JointClashes net rows j =
    marks_match (mark_at net rows j.giver) (mark_at net rows j.taker) ≡ false

-- What stands at a joint does not fit there: it lacks its item, has one without flow, or has one
-- that the giver's row does not give or the taker's row does not let in.
abbrev pub ItemFails : Net → List ℕ → List (Option Value) → JointEnds → Option Value → Type 0
ItemFails net rows items j None = mark_at net rows j.giver ≡ F
ItemFails net rows items j (Some item) =
    (mark_at net rows j.giver ≢ F)
    ⊎ (given_at net rows items j.giver ≢ Some item)
    ⊎ (lets_in net rows j.taker item ≡ false)

-- The least primitive with a row out of its table.
pub record IsRowFault (net : Net) (rows : List ℕ) (i : ℕ) : Type 0 where
  pub in_range : i < length net.primitives
  pub out : HasRowOut net rows i
  pub before : (k : ℕ) → k < i → HasRows net rows k

-- The least joint that does not match.
pub record IsJointFault (net : Net) (rows : List ℕ) (j : ℕ) : Type 0 where
  pub in_range : j < length net.joints
  pub clashes : (d : JointEnds) → JointClashes net rows (slice_index_or net.joints j d)
  pub before : (k : ℕ) (d : JointEnds) → k < j
      → JointMatches net rows (slice_index_or net.joints k d)

-- The least joint at which what stands does not fit.
pub record IsItemFault (net : Net) (rows : List ℕ) (items : List (Option Value)) (j : ℕ)
    : Type 0 where
  pub in_range : j < length net.joints
  pub fails : (d : JointEnds)
      → ItemFails net rows items (slice_index_or net.joints j d) (slice_index_or items j None)
  pub before : (k : ℕ) (d : JointEnds) → k < j
      → ItemFits net rows items (slice_index_or net.joints k d) (slice_index_or items k None)

-- What is wrong first with rows, in the order of the causes.
abbrev pub AreWrongRows : Net → List ℕ → Wrong → Type 0
AreWrongRows net rows Count = length rows ≢ side_count net
AreWrongRows net rows (Row i) = (length rows ≡ side_count net) × IsRowFault net rows i
AreWrongRows net rows (Joint j) = AreRowsOf net rows × IsJointFault net rows j
AreWrongRows net rows (Item j) = ⊥

-- What is wrong first with rows and items, in the order of the causes.
abbrev pub IsWrong : Net → List ℕ → List (Option Value) → Wrong → Type 0
IsWrong net rows items Count =
    (length rows ≢ side_count net) ⊎ (length items ≢ length net.joints)
IsWrong net rows items (Row i) =
    (length items ≡ length net.joints) × AreWrongRows net rows (Row i)
IsWrong net rows items (Joint j) =
    (length items ≡ length net.joints) × AreWrongRows net rows (Joint j)
IsWrong net rows items (Item j) =
    (length items ≡ length net.joints) × RowsFit net rows × IsItemFault net rows items j
