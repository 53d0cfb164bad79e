-- Going from place to place, and making each number least.
use Rattle.std.specs.Prelude.{ℕ, ◌<◌, ◌≤◌, ◌≡◌, Bool, true, List, Option, Some, None, length}
use Rattle.reo_net_base.specs.Net.{Net}
use Rattle.reo_net_laws.specs.Ends.{IsRowOf}
use Rattle.reo_net_laws.specs.Parts.{IsKnot}
use Rattle.reo_joint_values.specs.declared.value.JointValue.{JointValue}
use Rattle.reo_joint_values.specs.Values.{Names, Family}
use Rattle.reo_joint_values.specs.Supported.{IsSupported, IsNarrowed}
use Rattle.reo_joint_values.specs.Chosen.{IsChosen}
use Rattle.reo_support.specs.Sets.{OneAtLoops}
use Rattle.reo_joint_values.specs.Works.{RowWorks}
use Rattle.reo_rows.specs.RowFlags.{flag}
use Rattle.reo_walk.specs.declared.place.KeyPlace.{KeyPlace}
use Rattle.reo_walk.specs.declared.walking.Least.{Least}
use Rattle.reo_walk.specs.Places.{side_of_place, number_of, held_to}
use Rattle.reo_walk.specs.Settling.{HasChosen, HasNone, Settling}

-- A walk that came to its end: these numbers are settled, and on a knot where each loop joint has one value left, an assignment has
-- them.
pub record IsWalked (net : Net) (names : Names) (inside : ℕ → Bool) (turn : ℕ) (start now : Family) (places : List KeyPlace)
    (chosen : List ℕ) : Type 0 where
  pub settling : Settling (IsChosen net names inside start) (IsChosen net names inside now) net turn places chosen
  pub supported : IsSupported net names inside now
  pub less : (j : ℕ) (v : JointValue) → now j v ≡ true → start j v ≡ true
  pub some : IsKnot net inside → OneAtLoops net inside now → HasChosen net names inside now

-- A walk that cannot go on: on a knot with one value at each loop joint from the start, there was no assignment.
abbrev pub IsStuck : Net → Names → (ℕ → Bool) → Family → Type 0
IsStuck net names inside start = IsKnot net inside → OneAtLoops net inside start → HasNone net names inside start

-- How far a walk has come.
pub record IsWalking (net : Net) (names : Names) (inside : ℕ → Bool) (turn : ℕ) (start now : Family) (places : List KeyPlace)
    (chosen : List ℕ) : Type 0 where
  pub settling : Settling (IsChosen net names inside start) (IsChosen net names inside now) net turn places chosen
  pub supported : IsSupported net names inside now
  pub less : (j : ℕ) (v : JointValue) → now j v ≡ true → start j v ≡ true
  pub count : length chosen ≡ length places
  pub some : 0 < length places → IsKnot net inside → OneAtLoops net inside start → HasChosen net names inside now

-- No row of a side has its flag.
abbrev pub NoneLive : List (List Bool) → ℕ → Type 0
NoneLive live side = (row : ℕ) → flag live side row ≡ true → ⊥

-- A row with its flag that puts the least number at a place among the first n rows, and whether all of them put that number there.
pub record IsLeastBelow (net : Net) (turn : ℕ) (p : KeyPlace) (live : List (List Bool)) (n : ℕ) (least : Least) : Type 0 where
  pub below : least.row < n
  pub set : flag live (side_of_place p) least.row ≡ true
  pub number : least.number ≡ number_of net turn p least.row
  pub none_less : (r : ℕ) → r < n → flag live (side_of_place p) r ≡ true → number_of net turn p least.row ≤ number_of net turn p r
  pub alone : least.alone ≡ true → (r : ℕ) → r < n → flag live (side_of_place p) r ≡ true
      → number_of net turn p r ≡ number_of net turn p least.row

-- The least of the first n rows of a side, if one has its flag.
abbrev pub IsBest : Net → ℕ → KeyPlace → List (List Bool) → ℕ → Option Least → Type 0
IsBest net turn p live n None = (r : ℕ) → r < n → flag live (side_of_place p) r ≡ true → ⊥
IsBest net turn p live n (Some least) = IsLeastBelow net turn p live n least

-- One step of a walk: the place is held to the least number of a row that works there, and narrowed.
pub record IsStepped (net : Net) (names : Names) (inside : ℕ → Bool) (turn : ℕ) (p : KeyPlace) (now next : Family) (number : ℕ)
    : Type 0 where
  pub row : ℕ
  pub in_table : IsRowOf net (side_of_place p) row
  pub works : RowWorks net names now (side_of_place p) row
  pub number_is : number_of net turn p row ≡ number
  pub least : (r : ℕ) → RowWorks net names now (side_of_place p) r → number_of net turn p row ≤ number_of net turn p r
  pub narrowed : IsNarrowed net names inside (held_to net p row now) next
  pub less : (j : ℕ) (v : JointValue) → next j v ≡ true → now j v ≡ true
  pub supported : IsSupported net names inside next
