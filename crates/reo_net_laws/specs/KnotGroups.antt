-- Lists of numbers, one for each knot.
use Rattle.std.specs.Prelude.{ℕ, ◌<◌, ◌≡◌, ◌==◌, ◌&&◌, ◌++◌, Bool, false, cond, List, [], ◌∷◌, length, filter, slice_index, slice_index_or}
use Rattle.std.specs.List.{range_with_len}
use Rattle.reo_net_base.specs.declared.joint.Joint.{Joint}
use Rattle.reo_net_base.specs.Net.{Net, side_at}

-- Each number is below the count.
abbrev pub AreBelow : List ℕ → ℕ → Type 0
AreBelow numbers count = (s : ℕ) → s < length numbers → slice_index numbers s < count

-- So many lists, all empty.
pub record AreEmpty (groups : List (List ℕ)) (count : ℕ) : Type 0 where
  pub one_each : length groups ≡ count
  pub empty : (k : ℕ) (d : List ℕ) → k < count → slice_index_or groups k d ≡ []

-- A number came at the end of the list of a knot, if it was wanted.
pub record IsAdded (old new : List (List ℕ)) (knot number : ℕ) (wanted : Bool) : Type 0 where
  pub one_each : length new ≡ length old
  pub each : (k : ℕ) (d : List ℕ) → k < length old
      → slice_index_or new k d
      ≡ slice_index_or old k d ++ cond (wanted && (knot == k)) (number ∷ []) []

-- For each knot those of the first n numbers that pass its test, in order.
pub record ArePicked (picks : ℕ → ℕ → Bool) (n : ℕ) (groups : List (List ℕ)) (count : ℕ)
    : Type 0 where
  pub one_each : length groups ≡ count
  pub each : (k : ℕ) (d : List ℕ) → k < count
      → slice_index_or groups k d ≡ filter (picks k) (range_with_len 0 n)

-- For each knot those of the first n sides that have its number.
abbrev pub AreSidesBelow : List ℕ → ℕ → List (List ℕ) → ℕ → Type 0
AreSidesBelow numbers n groups count =
    ArePicked (λ k s. slice_index numbers s == k) n groups count

-- For each knot those of the first n joints that close loops in it.
abbrev pub AreLoopsBelow : Net → List ℕ → List Bool → ℕ → List (List ℕ) → ℕ → Type 0
AreLoopsBelow net numbers loops n groups count = (e : Joint)
    → ArePicked
    (λ k j. slice_index_or loops j false
    && (slice_index numbers (side_at net (slice_index_or net.joints j e).giver) == k))
    n groups count
