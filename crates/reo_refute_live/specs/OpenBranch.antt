-- The open branches of a log.
use Rattle.std.specs.Prelude.{ℕ, ◌<◌, ◌≤◌, ◌^◌, ◌≡◌, List, [], ◌∷◌, ◌++◌, length, map, drop, slice_index_or}
use Rattle.std.specs.List.{All}
use Rattle.reo_joint_values.specs.Values.{Family}
use Rattle.reo_refute_base.specs.Items.{Lists, items_at}
use Rattle.reo_refute_base.specs.Live.{alone, live_at}
use Rattle.reo_refute_live.specs.support.Families.{family_of}
use Rattle.reo_refute_live.specs.declared.branches.Split.{Split}
use Rattle.reo_refute_live.specs.declared.branches.OpenBranch.{OpenBranch}
use Rattle.reo_refute_live.specs.declared.trail.Gone.{Gone}
use Rattle.reo_refute_live.specs.Trail.{revived, AreKept}

-- What was live at a split: what is live, and the values that have gone since.
abbrev pub at_split : Family → List Gone → Split → Family
at_split live gone split = revived live (drop split.gone gone)

-- What will be live in the branches of a split that are still to come, in their order.
abbrev pub to_come : Family → List Gone → Split → List Family
to_come live gone split =
    map (alone (at_split live gone split) split.joint) (drop split.next split.values)

-- What will be live in the branches of splits that are still to come, the next first.
abbrev pub all_to_come : Family → List Gone → List Split → List Family
all_to_come live gone [] = []
all_to_come live gone (split ∷ splits) = all_to_come live gone splits ++ to_come live gone split

-- What will be live in the branches behind the present one, the next first.
abbrev pub still_open : OpenBranch → List Family
still_open live = all_to_come (family_of live.table) live.gone live.splits

-- What is live in the open branches, the present one first.
abbrev pub open_in : OpenBranch → List Family
open_in live = family_of live.table ∷ still_open live

-- A split after which values have gone: it is of the values that were live at its joint.
pub record IsSplit (lists : Lists) (live : Family) (gone : List Gone) (split : Split) : Type 0 where
  pub since : split.gone ≤ length gone
  pub joint : split.joint < length lists
  pub values_are : split.values ≡ live_at lists (at_split live gone split) split.joint

-- Each split stands in those before it.
abbrev pub AreNested : List Split → Type 0
AreNested splits = (i k : ℕ) (d : Split) → i < k → k < length splits
    → (slice_index_or splits i d).gone ≤ (slice_index_or splits k d).gone

-- The table, what went and the splits are for these item lists.
pub record IsOpen (lists : Lists) (live : OpenBranch) : Type 0 where
  pub kept : AreKept lists live.table live.gone
  pub splits : All (IsSplit lists (family_of live.table) live.gone) live.splits
  pub nested : AreNested live.splits

-- No branch is to come.
pub record IsClosed (lists : Lists) (live : OpenBranch) : Type 0 where
  pub kept : AreKept lists live.table live.gone
  pub none : live.splits ≡ []

-- The numbers of all items are below 2^32.
abbrev pub AreSmall : Lists → Type 0
AreSmall lists = (j : ℕ) → length (items_at lists j) < 2 ^ 32
