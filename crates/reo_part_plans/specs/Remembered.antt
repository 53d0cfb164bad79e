-- Rows that are remembered.
use Rattle.std.specs.Prelude.{ℕ, ◌<◌, ◌≤◌, ◌≡◌, ◌⊎◌, Bool, List, [], length, slice_index_or}
use Rattle.reo_net_base.specs.Net.{Net}
use Rattle.reo_net_base.specs.Shapes.{SameShapes, TreatAlike}
use Rattle.reo_net_base.specs.Wired.{IsWired}
use Rattle.reo_net_laws.specs.Sublists.{part_rows}
use Rattle.reo_net_laws.specs.Knots.{Knotted, in_knot, knot_count}
use Rattle.reo_flows.specs.flowing.Flowing.{AreFlowingOf}
use Rattle.reo_net_laws.specs.state_laws.States.{AreFirstRows}
use Rattle.reo_item_bounds.specs.Bounds.{HasBounds}
use Rattle.reo_part_plans.specs.declared.entry.RememberedRows.{RememberedRows}
use Rattle.reo_planning.specs.Written.{AreWritten}
use Rattle.reo_part_plans.specs.Given.{Decide, AreGiven}
use Rattle.reo_part_plans.specs.Looks.{IsKey}
use Rattle.reo_part_plans.specs.declared.plans.RememberedPart.{RememberedPart}

-- An entry is right for a set of sides of a circuit: in some circuit of the same shape that treats items alike, in some
-- round, its key was that of the sides, its items were what decided besides, its rows were those of the first
-- assignment, by which just its joints flowed, and by bounds that tables tell there were at most so many choices of
-- values at loop joints.
pub record IsRemembered (net : Net) (inside : ℕ → Bool) (sides : List ℕ) (entry : RememberedRows) : Type 0 where
  pub before : Net
  pub turn : ℕ
  pub wired : IsWired before
  pub joints : net.joints ≡ before.joints
  pub shapes : SameShapes before.primitives net.primitives
  pub alike : TreatAlike before.primitives net.primitives
  pub key : IsKey before sides turn entry.key
  pub items : Decide before sides entry.items
  pub from : List ℕ
  pub first : AreFirstRows before inside turn from
  pub rows : entry.rows ≡ part_rows sides from
  pub flowing : AreFlowingOf before inside from entry.flowing
  pub bounds : HasBounds before inside entry.choices

-- Each entry of a part is right.
abbrev pub AreRemembered : Net → (ℕ → Bool) → List ℕ → List RememberedRows → Type 0
AreRemembered net inside sides entries = (m : ℕ) (d : RememberedRows) → m < length entries
    → IsRemembered net inside sides (slice_index_or entries m d)

-- Entries stay, or all of them go.
abbrev pub StayOrGo : List RememberedRows → List RememberedRows → Type 0
StayOrGo old new = (new ≡ old) ⊎ (new ≡ [])

-- Entries for each part of a circuit, which are right.
pub record AreAllRemembered (net : Net) (knots : Knotted) (parts : List RememberedPart) : Type 0 where
  pub one_each : length parts ≡ knot_count knots
  pub right : (k : ℕ) (d : RememberedPart) → k < knot_count knots
      → AreRemembered net (in_knot knots.numbers k) (slice_index_or knots.sides k []) (slice_index_or parts k d).entries

-- So many parts, of which nothing is remembered yet.
pub record AreNew (count : ℕ) (parts : List RememberedPart) : Type 0 where
  pub one_each : length parts ≡ count
  pub none : (k : ℕ) (d : RememberedPart) → k < count → (slice_index_or parts k d).entries ≡ []

-- The rows of an entry were written down at some sides, whatever rows these are of, and its joints that flow.
pub record IsWrittenDown (entry : RememberedRows) (sides old new flowing : List ℕ) : Type 0 where
  pub written : (from : List ℕ) → entry.rows ≡ part_rows sides from → AreWritten sides from old new
  pub flowing_is : flowing ≡ entry.flowing

-- An entry whose key is that of some sides in the round of a number, at which the state gives its items.
abbrev pub IsFoundAt : Net → List ℕ → ℕ → List RememberedRows → ℕ → Type 0
IsFoundAt net sides turn entries place = (place < length entries)
    × ((d : RememberedRows) → IsKey net sides turn (slice_index_or entries place d).key
    × AreGiven net sides (slice_index_or entries place d).items)

-- Such an entry, which allows no more choices than a budget, was written down.
pub record IsRecalled (net : Net) (sides : List ℕ) (turn budget : ℕ) (entries : List RememberedRows) (old new flowing : List ℕ)
    : Type 0 where
  pub place : ℕ
  pub found_at : IsFoundAt net sides turn entries place
  pub few : (d : RememberedRows) → (slice_index_or entries place d).choices ≤ budget
  pub written : (d : RememberedRows) → IsWrittenDown (slice_index_or entries place d) sides old new flowing
