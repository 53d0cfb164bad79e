-- Lists of items that are made row by row.
use Rattle.std.specs.Prelude.{ℕ, ◌≤◌, ◌⊎◌, ◌≡◌, List, Contains, length, nat_lt, slice_set}
use Rattle.reo_values.specs.declared.value.Value.{Value}
use Rattle.reo_net_base.specs.declared.joint.End.{End}
use Rattle.reo_net_base.specs.Net.{Net}
use Rattle.reo_joint_values.specs.Standing.{giver_of, GivesAlone, GivesFor}
use Rattle.reo_joint_values.specs.Many.{AreDistinct}
use Rattle.reo_reach.specs.Supplied.{Supplied, items_at}

-- A list after wanted items were added that were not there: all of them, or so many that there are
-- more than 256 items.
pub record AreAdded (old new : List Value) (wanted : Value → Type 0) : Type 0 where
  pub kept : (item : Value) → Contains old item → Contains new item
  pub from : (item : Value) → Contains new item → Contains old item ⊎ wanted item
  pub all : length new ≤ 256 → (item : Value) → wanted item → Contains new item
  pub distinct : AreDistinct old → AreDistinct new
  pub longer : length old ≤ length new
  pub short : length old ≤ 257 → length new ≤ 257

-- What a row gives at an end: by the state alone, or for an item in the list of the joint that
-- decides.
pub data IsProduced (net : Net) (supplied : Supplied) (giver : End) (row : ℕ) (item : Value)
    : Type 0 where
  by_state : GivesAlone net giver row item → IsProduced net supplied giver row item
  by_item : (k : ℕ) (taken : Value) → GivesFor net giver row k taken item
      → Contains (items_at supplied k) taken → IsProduced net supplied giver row item

-- What rows produce at a joint, none twice: all of it, or more than 256 items of it.
pub record IsMade (net : Net) (supplied : Supplied) (j : ℕ) (items : List Value) : Type 0 where
  pub sound : (item : Value) → Contains items item
      → (row : ℕ) × IsProduced net supplied (giver_of net j) row item
  pub distinct : AreDistinct items
  pub whole : length items ≤ 256 → (row : ℕ) (item : Value)
      → IsProduced net supplied (giver_of net j) row item → Contains items item
  pub short : length items ≤ 257

-- A supply with a new list at a joint, which is wide where there are more than 256 items.
abbrev pub renewed : Supplied → ℕ → List Value → Supplied
renewed supplied j items = record {
  items = slice_set supplied.items j items;
  wide = slice_set supplied.wide j (nat_lt 256 (length items));
}

-- A supply after the list of a joint was made anew.
pub record IsRenewed (net : Net) (old new : Supplied) (j : ℕ) : Type 0 where
  pub items : List Value
  pub made : IsMade net old j items
  pub after : new ≡ renewed old j items
