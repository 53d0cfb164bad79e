-- Counts that stop at one more than what is allowed.
use Rattle.std.specs.Prelude.{ℕ, ◌≡◌, ◌<◌, min, List, length, map, slice_index_or}
use Rattle.reo_flat.specs.declared.sizes.Sizes.{Sizes}
use Rattle.reo_flat.specs.Unfolding.{Meaning}

-- The sizes are those of the meaning, as far as they count.
pub record IsSizeOf (uses depth placed : ℕ) (s : Sizes) : Type 0 where
  pub uses_is : s.uses ≡ min 65537 uses
  pub depth_is : s.depth ≡ min 65 depth
  pub placed_is : s.placed ≡ min 4097 placed

abbrev pub IsSizesOf : Meaning → Sizes → Type 0
IsSizesOf m s = IsSizeOf m.uses m.depth m.placed s

-- Connectors by name, with their sizes in the same order.
pub record AreSizes (known : List Meaning) (names : List (List ℕ)) (table : List Sizes) : Type 0 where
  pub names_are : names ≡ map (λ (m : Meaning). m.name) known
  pub one_each : length table ≡ length known
  pub sizes : (k : ℕ) → k < length known → (m : Meaning) (s : Sizes) → IsSizesOf (slice_index_or known k m) (slice_index_or table k s)
