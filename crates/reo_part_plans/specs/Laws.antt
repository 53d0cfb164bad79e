-- What is remembered stays right.
use Rattle.std.specs.Prelude.{◌≡◌, List}
use Rattle.reo_net_base.specs.Net.{Net}
use Rattle.reo_net_base.specs.Shapes.{SameShapes, TreatAlike}
use Rattle.reo_net_laws.specs.Knots.{Knotted}
use Rattle.reo_part_plans.specs.declared.plans.RememberedPart.{RememberedPart}
use Rattle.reo_part_plans.specs.Remembered.{AreAllRemembered}

-- What is remembered of the parts of a circuit is right for each circuit of the same shape that treats items alike, whatever its state.
abbrev pub PlansStay : Type 0
PlansStay = (net other : Net) → other.joints ≡ net.joints → SameShapes net.primitives other.primitives → TreatAlike net.primitives other.primitives
    → (knots : Knotted) (parts : List RememberedPart) → AreAllRemembered net knots parts → AreAllRemembered other knots parts
