-- A connector where it is used.
use Rattle.std.specs.Prelude.{ℕ, List, [], ◌∷◌, take}
use Rattle.reo_trees.specs.declared.items.Item.{Item}
use Rattle.reo_trees.specs.declared.items.ItemForm.{ItemForm}
use Rattle.reo_trees.specs.declared.items.Channel.{Channel}
use Rattle.reo_rules.specs.Lists.{each_after}
use Rattle.reo_rules.specs.Types.{Typed, types_of, type_named}
use Rattle.reo_rules.specs.Scopes.{scope_of}
use Rattle.reo_flat.specs.ChannelKinds.{channel_kind}
use Rattle.reo_flat.specs.Unfolding.{Placed, Meaning, meanings_of, flat_name, nodes_in, channels_in}
use Rattle.reo_unfold.specs.declared.unfold.Frame.{Frame}
use Rattle.reo_unfold.specs.declared.unfold.Unfolded.{Unfolded}
use Rattle.reo_unfold.specs.Ground.{IsGround, IsStand}
use Rattle.reo_unfold.specs.Local.{IsLocal}
use Rattle.reo_unfold.specs.Fits.{AreFit}
use Rattle.reo_unfold.specs.Adds.{Adds}

-- The connector stands where the frame says, with its names, in a program that fits.
pub record IsFrame (f : Frame) : Type 0 where
  pub ground : IsGround f.declarations.now f.ground.now
  pub stand : IsStand f.declarations.now f.number f.connector.now f.stand
  pub local : IsLocal f.connector.now f.local.now
  pub fit : AreFit f.declarations.now

-- What is known where the connector is declared.
abbrev pub types_at : Frame → List Typed
types_at f = types_of (take f.stand.place f.declarations.now)

abbrev pub known_at : Frame → List Meaning
known_at f = meanings_of (take f.stand.place f.declarations.now)

-- The flat name of a name of the connector.
abbrev pub flat_at : Frame → List ℕ → List ℕ → List ℕ
flat_at f path name = flat_name path f.connector.now.parameters f.arguments.now name

-- What a channel places.
abbrev pub placed_at : Frame → List ℕ → Channel → List ℕ → List ℕ → List Placed
placed_at f path channel first second =
    record { kind = channel_kind (types_at f) (type_named (scope_of (types_at f) f.connector.now) first) channel; nodes = flat_at f path first ∷ flat_at f path second ∷ [] } ∷ []

-- The nodes and channels of an item behind others.
abbrev pub nodes_at : Frame → List ℕ → List Item → ItemForm → List (List ℕ)
nodes_at f path before form = nodes_in (known_at f) path before form

abbrev pub channels_at : Frame → List ℕ → List Item → ItemForm → List Placed
channels_at f path before form = channels_in (known_at f) (types_at f) (scope_of (types_at f) f.connector.now) path (flat_at f path) before form

-- These came at the end, of one item, and of all.
abbrev pub AddsForm : Frame → List ℕ → List Item → ItemForm → Unfolded → Unfolded → Type 0
AddsForm f path before form old new = Adds old new (nodes_at f path before form) (channels_at f path before form)

abbrev pub AddsItems : Frame → List ℕ → List Item → Unfolded → Unfolded → Type 0
AddsItems f path is old new =
    Adds old new (each_after (λ before (i : Item). nodes_at f path before i.form) [] is) (each_after (λ before (i : Item). channels_at f path before i.form) [] is)
