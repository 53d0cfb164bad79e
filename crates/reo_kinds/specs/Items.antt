-- The items that a writer may offer.
use Rattle.std.specs.Prelude.{Bool, true, Option, Some, None}
use Rattle.reo_values.specs.declared.value.Value.{Value}
use Rattle.reo_values.specs.declared.kindred.Kindred.{Kindred}
use Rattle.reo_values.specs.Kind.{is_item}

-- whether the offer, if there is one, is of the type
abbrev pub offer_fits : Option Value → Kindred → Bool
offer_fits None kindred = true
offer_fits (Some item) kindred = is_item item kindred
