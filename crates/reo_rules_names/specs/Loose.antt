-- What lacks an end in one connector.
use Rattle.std.specs.Prelude.{List, ◌++◌}
use Rattle.std.specs.List.{flat_map}
use Rattle.reo_trees.specs.declared.items.Item.{Item}
use Rattle.reo_trees.specs.declared.programs.Connector.{Connector}
use Rattle.reo_rules.specs.declared.fault.FlatFault.{FlatFault}
use Rattle.reo_rules.specs.Touches.{Touch}
use Rattle.reo_rules.specs.Dangling.{dangling_parameter, dangling_in_item}

-- The breaks in a connector that has these ends: its parameters', and then its nodes'.
abbrev pub lacking_ends : List Touch → Connector → List FlatFault
lacking_ends touches c = flat_map (dangling_parameter touches) c.parameters ++ flat_map (λ (i : Item). dangling_in_item touches i.line i.form) c.items
