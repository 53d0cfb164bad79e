-- Items that go.
use Rattle.std.specs.Prelude.{ℕ, ◌≡◌, ◌⊎◌, List, Option, None, length, set, slice_index_or}
use Rattle.reo_values.specs.declared.value.Value.{Value}

-- There are as many places, and none has an item that had none.
pub record ComesNoItem (old new : List (Option Value)) : Type 0 where
  pub count : length new ≡ length old
  pub none : (j : ℕ) → slice_index_or old j None ≡ None → slice_index_or new j None ≡ None

-- The items are as they were, but at one place there may be none now.
abbrev pub MayBeCleared : ℕ → List (Option Value) → List (Option Value) → Type 0
MayBeCleared place old new = (new ≡ old) ⊎ (new ≡ set old place None)
