-- Knots of circuits of one shape.
use Rattle.std.specs.Prelude.{◌≡◌}
use Rattle.reo_net_base.specs.Net.{Net}
use Rattle.reo_net_base.specs.Shapes.{SameShapes}
use Rattle.reo_net_base.specs.Wired.{IsWired}
use Rattle.reo_net_laws.specs.Knots.{Knotted, AreKnots}

-- The knots of a circuit are those of each circuit of its shape.
abbrev pub KnotsStayWithShape : Type 0
KnotsStayWithShape = (net other : Net) → IsWired net → other.joints ≡ net.joints → SameShapes net.primitives other.primitives
    → (knots : Knotted) → AreKnots net knots → AreKnots other knots
