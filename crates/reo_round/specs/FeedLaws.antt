-- What feeds joints is told by the shape of a circuit, and in one way.
use Rattle.std.specs.Prelude.{ℕ, ◌≡◌, List}
use Rattle.reo_net_base.specs.Net.{Net}
use Rattle.reo_net_base.specs.Shapes.{SameShapes}
use Rattle.reo_round.specs.Feeds.{AreFeeds}

-- What feeds the joints of a circuit feeds those of each circuit of the same shape.
abbrev pub FeedsStay : Type 0
FeedsStay = (net other : Net) → other.joints ≡ net.joints → SameShapes net.primitives other.primitives
    → (feeds : List ℕ) → AreFeeds net feeds → AreFeeds other feeds

-- A circuit has one list of what feeds its joints.
abbrev pub FeedsAreOne : Type 0
FeedsAreOne = (net : Net) (feeds others : List ℕ) → AreFeeds net feeds → AreFeeds net others → feeds ≡ others
