-- A plan, part by part.
use Rattle.std.specs.Prelude.{ℕ, Bool, List, Option}
use Rattle.reo_values.specs.declared.value.Value.{Value}
use Rattle.reo_net_base.specs.Net.{Net}
use Rattle.reo_net_laws.specs.Keys.{IsFirstIn}
use Rattle.reo_net_laws.specs.Parts.{IsClosed}

-- On each closed set of sides rows and items are the first assignment of the set: whatever the
-- others are. So it is on each part, by whichever numbers the parts are told apart.
abbrev pub AreFirstInParts : Net → ℕ → List ℕ → List (Option Value) → Type 0
AreFirstInParts net turn rows items = (inside : ℕ → Bool) → IsClosed net inside
    → IsFirstIn net inside turn rows items
