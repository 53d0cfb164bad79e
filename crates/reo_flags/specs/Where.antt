-- Flags that stay where marks have a value.
use Rattle.std.specs.Prelude.{◌≡◌, ℕ, Bool, false, not, List, length, slice_index_or}

-- Flags stay at places where the mark has this value, and all others are clear.
pub record AreKeptWhere (value : Bool) (marks old new : List Bool) : Type 0 where
  pub one_each : length new ≡ length old
  pub kept : (k : ℕ) → slice_index_or marks k false ≡ value
      → slice_index_or new k false ≡ slice_index_or old k false
  pub gone : (k : ℕ) → slice_index_or marks k false ≡ not value
      → slice_index_or new k false ≡ false
