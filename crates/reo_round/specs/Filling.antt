-- Items that are put at joints.
use Rattle.std.specs.Prelude.{ℕ, ◌<◌, ◌≡◌, ◌≢◌, Bool, false, List, ◌∷◌, [], ◌++◌, Option, None, length, slice_index, slice_index_or}
use Rattle.reo_values.specs.declared.value.Value.{Value}
use Rattle.reo_net_base.specs.declared.joint.Joint.{Joint}
use Rattle.reo_net_base.specs.Net.{Net}
use Rattle.reo_net_base.specs.Colouring.{IsColouring, given_at}
use Rattle.reo_joint_values.specs.Many.{IsJointIn}

-- With some items these rows are a colouring.
pub record HaveColouring (net : Net) (rows : List ℕ) : Type 0 where
  pub items : List (Option Value)
  pub colouring : IsColouring net rows items

-- No item at any of so many joints.
pub record AreBlank (count : ℕ) (items : List (Option Value)) : Type 0 where
  pub count_is : length items ≡ count
  pub none : (j : ℕ) → slice_index_or items j None ≡ None

-- No item at the joints of a set of sides.
abbrev pub AreBlankOn : Net → (ℕ → Bool) → List (Option Value) → Type 0
AreBlankOn net inside items = (j : ℕ) → IsJointIn net inside j → slice_index_or items j None ≡ None

-- A flag for each of so many parts, and no joint is listed for a part whose flag is clear.
pub record AreMoving (parts : ℕ) (flags : List Bool) (lists : List (List ℕ)) : Type 0 where
  pub one_each : length flags ≡ parts
  pub none : (k : ℕ) → k < parts → slice_index_or flags k false ≡ false → slice_index_or lists k [] ≡ []

-- Exactly the joints that have an item.
pub record AreHeld (items : List (Option Value)) (joints : List ℕ) : Type 0 where
  pub some : (m : ℕ) → m < length joints → slice_index_or items (slice_index joints m) None ≢ None
  pub each : (j : ℕ) → slice_index_or items j None ≢ None → (m : ℕ) × (m < length joints) × (slice_index joints m ≡ j)

-- At a joint stands what its giver's row gives, and the joint was noted; nothing else changed.
pub record IsPut (net : Net) (rows : List ℕ) (j : ℕ) (old new : List (Option Value)) (before noted : List ℕ) : Type 0 where
  pub count : length new ≡ length old
  pub others : (k : ℕ) → k ≢ j → slice_index_or new k None ≡ slice_index_or old k None
  pub noted_is : noted ≡ before ++ j ∷ []
  pub item : (d : Joint) → slice_index_or new j None ≡ given_at net rows old (slice_index_or net.joints j d).giver

-- The joints of a set of sides have the items of a list, and all others what they had; and exactly those that have one
-- are noted.
pub record IsPartFilled (net : Net) (inside : ℕ → Bool) (from old new : List (Option Value)) (noted : List ℕ) : Type 0 where
  pub count : length new ≡ length old
  pub here : (j : ℕ) → IsJointIn net inside j → slice_index_or new j None ≡ slice_index_or from j None
  pub others : (k : ℕ) → (IsJointIn net inside k → ⊥) → slice_index_or new k None ≡ slice_index_or old k None
  pub held : AreHeld new noted

-- All joints have the items of a list, and exactly those that have one are noted.
pub record AreFilled (from new : List (Option Value)) (noted : List ℕ) : Type 0 where
  pub items : new ≡ from
  pub held : AreHeld new noted

-- Each joint that has an item is one of these.
abbrev pub AreHeldAmong : List (Option Value) → List ℕ → Type 0
AreHeldAmong items joints = (j : ℕ) → slice_index_or items j None ≢ None
    → (m : ℕ) × (m < length joints) × (slice_index joints m ≡ j)
