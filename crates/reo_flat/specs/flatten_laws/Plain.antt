-- Names without the byte `@`, by which paths are told from names.
use Rattle.std.specs.Prelude.{ℕ, ◌^◌, ◌≢◌, ◌<◌, List, length}
use Rattle.std.specs.List.{All}
use Rattle.reo_trees.specs.declared.items.Item.{Item}
use Rattle.reo_trees.specs.declared.items.ItemForm.{ItemForm}
use Rattle.reo_trees.specs.declared.items.ItemForm.TheVariants as forms
use Rattle.reo_trees.specs.declared.programs.Parameter.{Parameter}
use Rattle.reo_trees.specs.declared.programs.Connector.{Connector}

-- No byte of the name is `@`.
abbrev pub IsPlainName : List ℕ → Type 0
IsPlainName name = All (λ b. b ≢ 64) name

-- The name of the node that an item declares, or of the connector that it uses, is such.
abbrev pub HasPlainName : ItemForm → Type 0
HasPlainName (forms.Node name term) = IsPlainName name
HasPlainName (forms.Joined channel first second) = Unit {0}
HasPlainName (forms.Used name arguments) = IsPlainName name

-- The names of a connector are such, and it has fewer than 2^64 items.
pub record HasPlainNames (c : Connector) : Type 0 where
  pub parameters : All (λ (p : Parameter). IsPlainName p.name) c.parameters
  pub items : All (λ (i : Item). HasPlainName i.form) c.items
  pub few : length c.items < 2 ^ 64
