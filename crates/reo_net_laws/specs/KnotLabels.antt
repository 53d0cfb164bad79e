-- Labels of sides.
use Rattle.std.specs.Prelude.{ℕ, ◌<◌, ◌≡◌, ◌↔◌, ◌==◌, ◌⊎◌, Bool, false, cond, IsTrue, List, Contains, length, slice_index, slice_index_or}
use Rattle.reo_net_base.specs.Net.{Net}
use Rattle.reo_net_base.specs.Sides.{side_count}
use Rattle.reo_net_laws.specs.Parts.{IsLinked}
use Rattle.reo_net_laws.specs.Knots.{IsLoop}

-- Two sides have one label.
abbrev pub same_label : List ℕ → ℕ → ℕ → Type 0
same_label labels s t = slice_index labels s ≡ slice_index labels t

-- Each label is the number of a side.
abbrev pub AreInRange : List ℕ → Type 0
AreInRange labels = (s : ℕ) → s < length labels → slice_index labels s < length labels

-- Each of the first n numbers at its own place.
pub record AreOwn (labels : List ℕ) (n : ℕ) : Type 0 where
  pub one_each : length labels ≡ n
  pub own : (s : ℕ) → s < n → slice_index labels s ≡ s

-- Each of the first n sides alone.
pub record AreOwnMembers (members : List (List ℕ)) (n : ℕ) : Type 0 where
  pub one_each : length members ≡ n
  pub alone : (k s : ℕ) (d : List ℕ) → k < n
      → Contains (slice_index_or members k d) s ↔ (s ≡ k)

-- For each label the sides that have it.
pub record AreMembers (labels : List ℕ) (members : List (List ℕ)) : Type 0 where
  pub one_each : length members ≡ length labels
  pub in_range : AreInRange labels
  pub exact : (k s : ℕ) (d : List ℕ) → k < length labels
      → Contains (slice_index_or members k d) s
      ↔ ((s < length labels) × (slice_index labels s ≡ k))

-- Some sides have this label, and the others their old ones.
pub record IsWritten (old new sides : List ℕ) (label : ℕ) : Type 0 where
  pub one_each : length new ≡ length old
  pub those : (s : ℕ) → Contains sides s → slice_index new s ≡ label
  pub others : (s : ℕ) → (Contains sides s → ⊥) → slice_index new s ≡ slice_index old s

-- A label after one has become another.
abbrev pub renamed : ℕ → ℕ → ℕ → ℕ
renamed from to label = cond (label == from) to label

-- Each label that was the one is the other.
pub record AreRelabelled (old new : List ℕ) (from to : ℕ) : Type 0 where
  pub one_each : length new ≡ length old
  pub each : (s : ℕ) → s < length old
      → slice_index new s ≡ renamed from to (slice_index old s)

-- One of two labels has become the other.
abbrev pub AreMerged : List ℕ → List ℕ → ℕ → ℕ → Type 0
AreMerged old new one other = AreRelabelled old new one other ⊎ AreRelabelled old new other one

-- Two sides have one label exactly where the first n joints link them.
pub record AreLabels (net : Net) (n : ℕ) (labels : List ℕ) : Type 0 where
  pub one_each : length labels ≡ side_count net
  pub exact : (s t : ℕ) → s < side_count net → t < side_count net
      → same_label labels s t ↔ IsLinked net n s t

-- For each of the first n joints whether it is a loop joint.
pub record AreLoops (net : Net) (n : ℕ) (loops : List Bool) : Type 0 where
  pub one_each : length loops ≡ n
  pub exact : (j : ℕ) → j < n → IsTrue (slice_index_or loops j false) ↔ IsLoop net j
