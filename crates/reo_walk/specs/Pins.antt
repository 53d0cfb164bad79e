-- Joints of which one value alone may be left.
use Rattle.std.specs.Prelude.{ℕ, ◌<◌, ◌≤◌, ◌≡◌, ◌≢◌, Bool, true, false, List, slice_index}
use Rattle.reo_rows.specs.RowFlags.{flag, AreAlikeTables}
use Rattle.reo_propagate.specs.declared.thinning.Loss.{Loss}

-- Of the first n values of a joint all but the one have gone, and nothing else.
pub record IsPinnedBelow (joint code n : ℕ) (old now : List (List Bool)) (loss : Loss) : Type 0 where
  pub alike : AreAlikeTables old now
  pub elsewhere : (i c : ℕ) → i ≢ joint → flag now i c ≡ flag old i c
  pub less : (c : ℕ) → flag now joint c ≡ true → flag old joint c ≡ true
  pub keeps : flag old joint code ≡ true → flag now joint code ≡ true
  pub only : (c : ℕ) → c < n → flag now joint c ≡ true → c ≡ code
  pub same : loss.some ≡ false → (c : ℕ) → flag now joint c ≡ flag old joint c
  pub flows : loss.flow ≡ false → (c : ℕ) → 4 ≤ c → flag now joint c ≡ flag old joint c

-- Of the values of a joint all but the one have gone, and nothing else.
pub record IsPinned (joint code : ℕ) (old now : List (List Bool)) : Type 0 where
  pub alike : AreAlikeTables old now
  pub elsewhere : (i c : ℕ) → i ≢ joint → flag now i c ≡ flag old i c
  pub less : (c : ℕ) → flag now joint c ≡ true → flag old joint c ≡ true
  pub keeps : flag old joint code ≡ true → flag now joint code ≡ true
  pub only : (c : ℕ) → flag now joint c ≡ true → c ≡ code

-- So it is at the first n of some joints, each with a value of its own.
pub record ArePinned (joints codes : List ℕ) (n : ℕ) (old now : List (List Bool)) : Type 0 where
  pub alike : AreAlikeTables old now
  pub less : (j c : ℕ) → flag now j c ≡ true → flag old j c ≡ true
  pub keeps : (j c : ℕ) → flag old j c ≡ true
      → ((m : ℕ) → m < n → slice_index joints m ≡ j → c ≡ slice_index codes m) → flag now j c ≡ true
  pub only : (m c : ℕ) → m < n → flag now (slice_index joints m) c ≡ true → c ≡ slice_index codes m
