-- Which primitives may have changed.
use Rattle.std.specs.Prelude.{ℕ, ◌≡◌, Bool, false, List, slice_get}
use Rattle.reo_flows.specs.stepping.Changes.{is_changed}

-- A primitive that is not marked stands as it stood; how many there are is not said.
abbrev pub OthersStay : {P : Type 0} → List Bool → List P → List P → Type 0
OthersStay marks old new = (i : ℕ) → is_changed marks i ≡ false → slice_get new i ≡ slice_get old i
