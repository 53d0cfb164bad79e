-- Items that are noted as new at a joint.
use Rattle.std.specs.Prelude.{◌++◌, List}
use Rattle.reo_values.specs.declared.value.Value.{Value}
use Rattle.reo_refute_base.specs.Items.{IsAdded}

-- The new items of a joint after items came to it in a row: each that is neither among the old nor
-- among the new ones is added at the back of these.
abbrev pub IsNoted : List Value → List Value → List Value → List Value → Type 0
IsNoted old before offered after = IsAdded (old ++ before) offered (old ++ after)
