-- What tables of parts are to the whole circuit, and where they stay right.
use Rattle.std.specs.Prelude.{ℕ, ◌+◌, ◌<◌, ◌≡◌, Bool, true, List, [], length, slice_index_or}
use Rattle.reo_net_base.specs.Net.{Net, behaviour_at, first_side}
use Rattle.reo_net_base.specs.Shapes.{SameShapes}
use Rattle.reo_net_base.specs.Wired.{IsWired}
use Rattle.reo_net_laws.specs.Parts.{IsClosed}
use Rattle.reo_net_circuit.specs.found_ends.Ends.{AreEnds}
use Rattle.reo_net_laws.specs.Knots.{Knotted, AreKnots, in_knot, knot_count}
use Rattle.reo_search_tables.specs.declared.tables.SearchTables.{SearchTables}
use Rattle.reo_search_tables.specs.SearchTables.{HasRoom, AreRightOn, AreReady}
use Rattle.reo_search_tables.specs.Orders.{AreJointsOf, AreOrders}

-- Tables that are right on each part are those of the circuit.
abbrev pub RightPartsAreReady : Type 0
RightPartsAreReady = (net : Net) → IsWired net → (ends : List (List ℕ)) → AreEnds net ends
    → (knots : Knotted) → AreKnots net knots → (tables : SearchTables) → HasRoom net tables
    → ((k : ℕ) → k < knot_count knots → AreRightOn net (in_knot knots.numbers k) tables)
    → AreReady net ends tables

-- The tables of a circuit have room for it, and are right on each set of sides.
abbrev pub ReadyTablesAreRight : Type 0
ReadyTablesAreRight = (net : Net) (ends : List (List ℕ)) (tables : SearchTables)
    → AreReady net ends tables
    → HasRoom net tables × ((inside : ℕ → Bool) → AreRightOn net inside tables)

-- A circuit of the same shape that is another at no primitive of a set of sides.
pub record IsSameOn (net other : Net) (inside : ℕ → Bool) : Type 0 where
  pub joints : other.joints ≡ net.joints
  pub shapes : SameShapes net.primitives other.primitives
  pub same : (i side : ℕ) → i < length net.primitives
      → side < (behaviour_at net.primitives i).sides
      → inside (first_side net.primitives i + side) ≡ true
      → behaviour_at other.primitives i ≡ behaviour_at net.primitives i

-- Tables that are right on a set stay so where the circuit changes at no primitive of it.
abbrev pub RightTablesStay : Type 0
RightTablesStay = (net other : Net) → IsWired net → (inside : ℕ → Bool) → IsClosed net inside
    → IsSameOn net other inside → (tables : SearchTables)
    → AreRightOn net inside tables → AreRightOn other inside tables

-- Tables have room for each circuit of the same shape.
abbrev pub RoomStays : Type 0
RoomStays = (net other : Net) → other.joints ≡ net.joints
    → SameShapes net.primitives other.primitives → (tables : SearchTables)
    → HasRoom net tables → HasRoom other tables

-- The joints of a part are just those of its list, which can be gone through.
abbrev pub OrdersAreOfParts : Type 0
OrdersAreOfParts = (net : Net) → IsWired net → (knots : Knotted) → AreKnots net knots
    → (orders : List (List ℕ)) → AreOrders net knots orders → (k : ℕ) → k < knot_count knots
    → AreJointsOf net (in_knot knots.numbers k) (slice_index_or orders k [])

-- The orders of parts are those of each circuit of the same shape.
abbrev pub OrdersStay : Type 0
OrdersStay = (net other : Net) → IsWired net → other.joints ≡ net.joints
    → SameShapes net.primitives other.primitives → (knots : Knotted) (orders : List (List ℕ))
    → AreOrders net knots orders → AreOrders other knots orders
