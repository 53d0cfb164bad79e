-- What a kind gives, seen without memory.
use Rattle.std.specs.Prelude.{Option, Some, None}
use Rattle.reo_values.specs.declared.value.Value.{Value}
use Rattle.reo_kinds.specs.declared.given.Given.{Given}
use Rattle.reo_kinds.specs.declared.given.Given.TheVariants.{Nothing, Same, Image}
use Rattle.reo_kinds.specs.Rules.{image}

-- the item, if there is one
abbrev pub item_of : Given → Option Value
item_of Nothing = None
item_of (Same item) = Some item.now
item_of (Image rule item) = Some (image rule.now item.now)
