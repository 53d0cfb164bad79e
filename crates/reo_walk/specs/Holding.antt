-- Holding joints to what suits a row.
use Rattle.std.specs.Prelude.{ℕ, ◌<◌, ◌≤◌, ◌≡◌, ◌≢◌, Bool, true, false, List, length, slice_index}
use Rattle.reo_net_base.specs.Net.{Net}
use Rattle.reo_joint_values.specs.declared.value.JointValue.{JointValue}
use Rattle.reo_rows.specs.RowFlags.{flag, AreAlikeTables}
use Rattle.reo_rows.specs.Sets.{value_of, family_of}
use Rattle.reo_propagate.specs.declared.thinning.Loss.{Loss}
use Rattle.reo_walk.specs.declared.place.KeyPlace.{KeyPlace}
use Rattle.reo_walk.specs.Places.{value_suits, held_to}

-- Of the first n values of a joint those that do not suit a row at a place have gone, and nothing else.
pub record IsHeldTo (net : Net) (p : KeyPlace) (row joint n : ℕ) (old now : List (List Bool)) (loss : Loss) : Type 0 where
  pub alike : AreAlikeTables old now
  pub elsewhere : (i c : ℕ) → i ≢ joint → flag now i c ≡ flag old i c
  pub less : (c : ℕ) → flag now joint c ≡ true → flag old joint c ≡ true
  pub keeps : (c : ℕ) → flag old joint c ≡ true → value_suits net p row joint (value_of c) ≡ true → flag now joint c ≡ true
  pub done : (c : ℕ) → c < n → flag now joint c ≡ true → value_suits net p row joint (value_of c) ≡ true
  pub same : loss.some ≡ false → (c : ℕ) → flag now joint c ≡ flag old joint c
  pub flows : loss.flow ≡ false → (c : ℕ) → 4 ≤ c → flag now joint c ≡ flag old joint c

-- Nothing has gone but what does not suit a row at a place.
pub record IsHeldSoFar (net : Net) (p : KeyPlace) (row : ℕ) (old now : List (List Bool)) : Type 0 where
  pub alike : AreAlikeTables old now
  pub less : (j : ℕ) (v : JointValue) → family_of now j v ≡ true → family_of old j v ≡ true
  pub keeps : (j : ℕ) (v : JointValue) → family_of old j v ≡ true → value_suits net p row j v ≡ true → family_of now j v ≡ true

-- At the first n joints of a list each value suits the row.
abbrev pub AllSuit : Net → KeyPlace → ℕ → List ℕ → ℕ → List (List Bool) → Type 0
AllSuit net p row list n now = (m : ℕ) → m < n → (v : JointValue) → family_of now (slice_index list m) v ≡ true
    → value_suits net p row (slice_index list m) v ≡ true

-- The values that are left are those that the row leaves at the place.
pub record IsHeld (net : Net) (p : KeyPlace) (row : ℕ) (old now : List (List Bool)) : Type 0 where
  pub alike : AreAlikeTables old now
  pub within : (j : ℕ) (v : JointValue) → family_of now j v ≡ true → family_of old j v ≡ true
  pub less : (j : ℕ) (v : JointValue) → j < length net.joints → family_of now j v ≡ true → held_to net p row (family_of old) j v ≡ true
  pub keeps : (j : ℕ) (v : JointValue) → held_to net p row (family_of old) j v ≡ true → family_of now j v ≡ true
