-- Where the marks of ends stand.
use Rattle.std.specs.Prelude.{ℕ, ◌+◌, ◌*◌, ◌<◌, ◌≡◌, true, List, [], length, slice_index, slice_index_or}
use Rattle.reo_net_base.specs.declared.form.Form.{Form}
use Rattle.reo_net_base.specs.declared.form.Form.TheVariants.{Single, Double, Merging, Replicating}
use Rattle.reo_net_base.specs.declared.joint.End.{End}
use Rattle.reo_net_base.specs.declared.joint.Joint.{Joint}
use Rattle.reo_net_base.specs.Net.{Net, behaviour_at, end_of, first_side}
use Rattle.reo_net_base.specs.Forms.{HasForm}
use Rattle.reo_mark_sets.specs.Standing.{ArePlaces, width_by, is_usual}

-- The place of an end, by a list for each primitive.
abbrev pub spot_of : List (List ℕ) → End → ℕ
spot_of spots e = slice_index (slice_index_or spots e.primitive []) e.end

-- A list for each primitive, with a place for each of its ends: twice the number of the joint of
-- which it is the giver, or the place behind that of the joint of which it is the taker.
pub record AreSpots (net : Net) (spots : List (List ℕ)) : Type 0 where
  pub one_list : length spots ≡ length net.primitives
  pub one_each : (i : ℕ) → i < length net.primitives
      → length (slice_index_or spots i []) ≡ (behaviour_at net.primitives i).ends
  pub giver : (j : ℕ) (d : Joint) → j < length net.joints → spot_of spots (slice_index_or net.joints j d).giver ≡ 2 * j
  pub taker : (j : ℕ) (d : Joint) → j < length net.joints → spot_of spots (slice_index_or net.joints j d).taker ≡ 2 * j + 1

-- The ends of a side of a form, in order.
abbrev pub end_by : Form → ℕ → ℕ → ℕ
end_by (Single table) side o = side
end_by (Double table) side o = o
end_by (Merging branches) side o = o
end_by (Replicating branches) side o = o

-- The places of the ends of a side.
pub record AreEndsOf (net : Net) (spots : List (List ℕ)) (i side : ℕ) (form : Form) (places : List ℕ) : Type 0 where
  pub width : length places ≡ width_by form
  pub each : (o : ℕ) → o < length places → slice_index places o ≡ spot_of spots (end_of i (end_by form side o))
  pub are : ArePlaces (2 * length net.joints) places

-- A side of a number, with the form of its table, of which there are as many ends as the table has,
-- and their places.
pub record IsSeat (net : Net) (spots : List (List ℕ)) (k : ℕ) (form : Form) (places : List ℕ) : Type 0 where
  pub primitive : ℕ
  pub side : ℕ
  pub primitive_in : primitive < length net.primitives
  pub side_in : side < (behaviour_at net.primitives primitive).sides
  pub number : k ≡ first_side net.primitives primitive + side
  pub form_is : HasForm form (behaviour_at net.primitives primitive) side
  pub usual : is_usual form ≡ true
  pub ends : AreEndsOf net spots primitive side form places
