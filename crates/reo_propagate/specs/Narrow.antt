-- Narrowing while some sides wait.
use Rattle.std.specs.Prelude.{ℕ, ◌<◌, ◌≤◌, ◌≡◌, ◌≢◌, ◌⊎◌, ◌↔◌, Bool, true, false, List, length, slice_index, slice_index_or}
use Rattle.reo_net_base.specs.Net.{Net}
use Rattle.reo_net_base.specs.Sides.{side_count}
use Rattle.reo_joint_values.specs.declared.value.JointValue.{JointValue}
use Rattle.reo_joint_values.specs.Values.{Names, Family, AtSide}
use Rattle.reo_joint_values.specs.Supported.{IsUsed, IsSettledAt, IsThinned, IsNarrowed, IsInGreatest}
use Rattle.reo_side_tables.specs.Listing.{StandsIn}
use Rattle.reo_side_tables.specs.Marks.{IsJointOf}
use Rattle.reo_rows.specs.declared.rows.Rows.{Rows}
use Rattle.reo_rows.specs.RowFlags.{flag, AreAlikeTables}
use Rattle.reo_rows.specs.Sets.{value_of, family_of}
use Rattle.reo_rows.specs.Rows.{AreLive, IsSifted, IsSeen, IsSpared}
use Rattle.reo_propagate.specs.declared.queue.WaitingSides.{WaitingSides}
use Rattle.reo_propagate.specs.declared.state.State.{State}
use Rattle.reo_propagate.specs.declared.thinning.Loss.{Loss}
use Rattle.reo_propagate.specs.Queues.{IsWoken}

-- A side is at rest: the rows with their flags are those that work, and each value at its joints is
-- used there.
pub record IsAtRest (net : Net) (names : Names) (family : Family) (side : ℕ) (rows : Rows)
    : Type 0 where
  pub sifted : IsSifted net names family side rows
  pub settled : IsSettledAt net names family side

-- A side waits, or can stay at rest: it lost no value with flow at a joint, and its rows have the
-- marks of values there, but for some that it can do without.
abbrev pub IsAwakeOrStays : Net → Family → Rows → Rows → WaitingSides → WaitingSides → ℕ → ℕ → Bool → Type 0
IsAwakeOrStays net family rows_old rows_new old new side j lost =
    (IsWoken old new side × (rows_new ≡ rows_old))
    ⊎ ((new ≡ old) × (lost ≡ false) × (slice_index_or old.waits side true ≡ false)
    × IsSpared net family side j rows_old rows_new)

-- At a side all stays as it was; at others rows may have lost their flags.
pub record OtherRowsMayGo (side : ℕ) (old new : Rows) : Type 0 where
  pub here : (row : ℕ) → flag new.live side row ≡ flag old.live side row
  pub less : (s row : ℕ) → flag new.live s row ≡ true → flag old.live s row ≡ true
  pub notes : new.notes ≡ old.notes
  pub seen : new.seen ≡ old.seen

-- A joint lost values and all else stays; the loss tells whether any went, and whether one with flow.
pub record IsCut (joint : ℕ) (old now : List (List Bool)) (loss : Loss) : Type 0 where
  pub alike : AreAlikeTables old now
  pub less : (i p : ℕ) → flag now i p ≡ true → flag old i p ≡ true
  pub elsewhere : (i p : ℕ) → i ≢ joint → flag now i p ≡ flag old i p
  pub same : loss.some ≡ false → (p : ℕ) → flag now joint p ≡ flag old joint p
  pub flows : loss.flow ≡ false → (p : ℕ) → 4 ≤ p → flag now joint p ≡ flag old joint p

-- Of the first n values of a joint those have gone that are not used at a side with values of the
-- start, and nothing that is used.
pub record IsThinnedTo (net : Net) (names : Names) (side joint n : ℕ) (start : Family)
    (now : List (List Bool)) : Type 0 where
  pub thinned : IsThinned net names side start (family_of now)
  pub done : (c : ℕ) → c < n → flag now joint c ≡ true
      → IsUsed net names start side joint (value_of c)

-- What narrowing keeps up among some sides: each is at rest, waits in the line, or is the one that is
-- being revised.
pub record IsTended (net : Net) (names : Names) (inside : ℕ → Bool) (revised : ℕ)
    (alive : List (List Bool)) (rows : Rows) (queue : WaitingSides) : Type 0 where
  pub one_each : length queue.waits ≡ side_count net
  pub works : (side : ℕ) → inside side ≡ true → AreLive net names (family_of alive) side rows
  pub at_rest : (side : ℕ) → inside side ≡ true → side ≢ revised
      → slice_index_or queue.waits side true ≡ false → IsAtRest net names (family_of alive) side rows
  pub waiting : (side : ℕ) → inside side ≡ true → slice_index_or queue.waits side true ≡ true
      → StandsIn queue.line side
  pub within : (m : ℕ) → m < length queue.line → inside (slice_index queue.line m) ≡ true

-- No side is being revised.
abbrev pub nobody : Net → ℕ
nobody net = side_count net

-- What narrowing does to the values, whether or not it comes to its end: it takes away only what is
-- not used.
pub record IsReduced (net : Net) (names : Names) (inside : ℕ → Bool) (old new : List (List Bool))
    : Type 0 where
  pub narrowed : IsNarrowed net names inside (family_of old) (family_of new)
  pub less : (j p : ℕ) → flag new j p ≡ true → flag old j p ≡ true
  pub elsewhere : (j p : ℕ) → ((side : ℕ) → IsJointOf net side j → inside side ≡ true → ⊥)
      → flag new j p ≡ flag old j p
  pub alike : AreAlikeTables old new

-- What tending a joint of a side does: only values that are used at the side are left there, and all
-- else stays, but for rows of other sides.
pub record IsTendedAt (net : Net) (names : Names) (side joint : ℕ) (old new : State) : Type 0 where
  pub rows : OtherRowsMayGo side old.rows new.rows
  pub alike : AreAlikeTables old.alive new.alive
  pub less : (i p : ℕ) → flag new.alive i p ≡ true → flag old.alive i p ≡ true
  pub elsewhere : (i p : ℕ) → i ≢ joint → flag new.alive i p ≡ flag old.alive i p
  pub thinned : (start : Family) → IsSifted net names start side old.rows
      → IsSeen net names start side old.rows → IsThinned net names side start (family_of old.alive)
      → IsThinned net names side start (family_of new.alive)
      × ((v : JointValue) → family_of new.alive joint v ≡ true → IsUsed net names start side joint v)

-- What revising a side does to the values.
pub record IsRevised (net : Net) (names : Names) (side : ℕ) (old new : List (List Bool))
    : Type 0 where
  pub thinned : IsThinned net names side (family_of old) (family_of new)
  pub elsewhere : (i p : ℕ) → (AtSide net i side → ⊥) → flag new i p ≡ flag old i p
  pub alike : AreAlikeTables old new

-- The values that are left are those of the greatest supported family within the old.
abbrev pub AreGreatest : Net → Names → (ℕ → Bool) → List (List Bool) → List (List Bool) → Type 0
AreGreatest net names inside old new = (j side : ℕ) (v : JointValue) → j < length net.joints
    → AtSide net j side → inside side ≡ true
    → (family_of new j v ≡ true) ↔ IsInGreatest net names inside (family_of old) j v
