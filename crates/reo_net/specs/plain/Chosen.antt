-- Chosen sides, and the colourings that have their rows.
use Rattle.std.specs.Prelude.{ℕ, ◌<◌, ◌≡◌, ◌≢◌, Bool, true, false, List, Option, slice_index, slice_index_or}
use Rattle.std.specs.declared.cmp.Ordering.TheVariants.{Less}
use Rattle.reo_values.specs.declared.value.Value.{Value}
use Rattle.reo_net_base.specs.declared.joint.Joint.{Joint}
use Rattle.reo_net_base.specs.Net.{Net, side_at}
use Rattle.reo_net_base.specs.Sides.{side_count}
use Rattle.reo_net_base.specs.Colouring.{IsColouring}
use Rattle.reo_net_base.specs.First.{order_of}

-- A side with the mark of those that are chosen.
abbrev pub IsChosen : List Bool → ℕ → Type 0
IsChosen chosen side = slice_index_or chosen side false ≡ true

-- Each side of a circuit is chosen.
abbrev pub AllChosen : Net → List Bool → Type 0
AllChosen net chosen = (side : ℕ) → side < side_count net → IsChosen chosen side

-- A side of a circuit that is not chosen.
pub record IsLeft (net : Net) (chosen : List Bool) (side : ℕ) : Type 0 where
  pub in_range : side < side_count net
  pub left : slice_index_or chosen side false ≡ false

-- Both sides of a joint are chosen.
pub record IsBetween (net : Net) (chosen : List Bool) (joint : Joint) : Type 0 where
  pub giver : IsChosen chosen (side_at net joint.giver)
  pub taker : IsChosen chosen (side_at net joint.taker)

-- The other rows are these at each chosen side.
abbrev pub Agrees : List Bool → List ℕ → List ℕ → Type 0
Agrees chosen rows others = (side : ℕ) → IsChosen chosen side → slice_index others side ≡ slice_index rows side

-- No colouring has these rows at the chosen sides.
abbrev pub NoneAgrees : Net → List Bool → List ℕ → Type 0
NoneAgrees net chosen rows = (others : List ℕ) (items : List (Option Value)) → IsColouring net others items → Agrees chosen rows others → ⊥

-- A colouring that is at least as good as the old one, and as all whose rows were tried.
pub record Improves (net : Net) (turn : ℕ) (tried : List ℕ → Type 0) (old new : List ℕ) (items : List (Option Value)) : Type 0 where
  pub colouring : IsColouring net new items
  pub not_after_old : (others : List ℕ) → order_of net turn others old ≢ Less → order_of net turn others new ≢ Less
  pub not_after_tried : (others : List ℕ) (other_items : List (Option Value)) → IsColouring net others other_items → tried others → order_of net turn others new ≢ Less
