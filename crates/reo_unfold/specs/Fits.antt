-- What the unfolding relies on.
use Rattle.std.specs.Prelude.{ℕ, ◌≡◌, ◌≤◌, List, [], Some, length, slice_get}
use Rattle.std.specs.List.{All}
use Rattle.reo_trees.specs.declared.types.Shape as shape
use Rattle.reo_trees.specs.declared.types.Shape.{Shape}
use Rattle.reo_trees.specs.declared.items.Item.{Item}
use Rattle.reo_trees.specs.declared.items.ItemForm.{ItemForm}
use Rattle.reo_trees.specs.declared.items.ItemForm.TheVariants as forms
use Rattle.reo_trees.specs.declared.items.Channel.{Channel}
use Rattle.reo_trees.specs.declared.items.Channel.TheVariants as channels
use Rattle.reo_trees.specs.declared.programs.Parameter.{Parameter}
use Rattle.reo_trees.specs.declared.programs.Connector.{Connector}
use Rattle.reo_trees.specs.declared.programs.Declaration.{Declaration}
use Rattle.reo_trees.specs.declared.programs.Declaration.TheVariants as declarations
use Rattle.reo_rules.specs.literals.Items.{HasFewNames}
use Rattle.reo_rules.specs.Types.{Typed, types_of}
use Rattle.reo_rules.specs.Twice.{twice_in_connector}

-- No list of names in a written type has more than 1,024.
abbrev pub IsFew : Shape → Type 0
IsFew (shape.Sym names) = length names ≤ 1024
IsFew (shape.Pair' m (shape.more_of-TypePair k x l y _)) = IsFew x × IsFew y
IsFew s = Unit {0}

-- A buffer has 1 to 1,024 places, and no more items than places.
abbrev pub ChannelFits : Channel → Type 0
ChannelFits (channels.Fifo size held) = (1 ≤ size) × (size ≤ 1024) × (length held ≤ size)
ChannelFits (channels.Shift size held) = (1 ≤ size) × (size ≤ 1024) × (length held ≤ size)
ChannelFits c = Unit {0}

abbrev pub FormFits : ItemForm → Type 0
FormFits (forms.Node name term) = IsFew term.shape
FormFits (forms.Joined channel first second) = ChannelFits channel
FormFits (forms.Used name arguments) = Unit {0}

-- No name of a connector stands twice, its types have few names, and its channels fit.
pub record IsFit (c : Connector) : Type 0 where
  pub once : twice_in_connector c ≡ []
  pub parameters : All (λ (p : Parameter). IsFew p.term.shape) c.parameters
  pub items : All (λ (i : Item). FormFits i.form) c.items

-- So it is with each connector, and the types that are declared have few names.
pub record AreFit (ds : List Declaration) : Type 0 where
  pub types : All (λ (e : Typed). HasFewNames e.kindred) (types_of ds)
  pub connectors : (place : ℕ) (c : Connector) → slice_get ds place ≡ Some (declarations.Made c) → IsFit c
