-- What bounds that tables tell are good for.
use Rattle.std.specs.Prelude.{ℕ, ◌≤◌, ◌≡◌, Bool, List}
use Rattle.reo_net_base.specs.Net.{Net}
use Rattle.reo_net_base.specs.Shapes.{SameShapes}
use Rattle.reo_net_base.specs.Wired.{IsWired, IsOrder}
use Rattle.reo_net_laws.specs.Parts.{IsClosed}
use Rattle.reo_weights.specs.Over.{IsWithin}
use Rattle.reo_net_laws.specs.state_laws.States.{HaveSameTables}
use Rattle.reo_item_bounds.specs.declared.kept.Bounds.{Bounds}
use Rattle.reo_item_bounds.specs.Bounds.{HasBounds}
use Rattle.reo_item_bounds.specs.Kept.{AreKeptBounds}

-- Bounds of a set are those of each circuit whose sides have the same tables there.
abbrev pub BoundsStay : Type 0
BoundsStay = (turn later : ℕ) (net other : Net) → IsWired net → (inside : ℕ → Bool)
    → HaveSameTables turn later net other inside → (choices : ℕ) → HasBounds net inside choices
    → HasBounds other inside choices

-- Bounds that are kept for a circuit are right for each circuit of the same shape, whatever its state.
abbrev pub KeptBoundsStay : Type 0
KeptBoundsStay = (net other : Net) → other.joints ≡ net.joints → SameShapes net.primitives other.primitives
    → (kept : Bounds) → AreKeptBounds net kept → AreKeptBounds other kept

-- A closed set with bounds is within each budget that allows so many choices.
abbrev pub BoundedPartsAreWithin : Type 0
BoundedPartsAreWithin = (net : Net) → IsWired net → (order : List ℕ) → IsOrder net order
    → (inside : ℕ → Bool) → IsClosed net inside → (choices : ℕ) → HasBounds net inside choices
    → (budget : ℕ) → choices ≤ budget → IsWithin budget net inside
