-- What the parts of an open circuit are searched by.
use Rattle.std.specs.Prelude.{ℕ, ◌<◌, ◌≢◌}
use Rattle.reo_net_base.specs.Net.{Net}
use Rattle.reo_net_circuit.specs.found_ends.Ends.{AreEnds}
use Rattle.reo_net_laws.specs.Knots.{Knotted, in_knot, knot_count}
use Rattle.reo_search_tables.specs.SearchTables.{HasRoom, AreRightOn}
use Rattle.reo_search_tables.specs.Orders.{AreOrders}
use Rattle.reo_listing.specs.declared.rows.lookups.Lookups.{Lookups}

-- The joint at each end, the joints of each part, and tables that are right on each part.
pub record AreLookups (net : Net) (knots : Knotted) (lookups : Lookups) : Type 0 where
  pub ends : AreEnds net lookups.ends
  pub orders : AreOrders net knots lookups.orders
  pub room : HasRoom net lookups.tables
  pub right : (k : ℕ) → k < knot_count knots → AreRightOn net (in_knot knots.numbers k) lookups.tables

-- The tables are right on each part but maybe one.
pub record AreLookupsBeside (net : Net) (knots : Knotted) (part : ℕ) (lookups : Lookups) : Type 0 where
  pub ends : AreEnds net lookups.ends
  pub orders : AreOrders net knots lookups.orders
  pub room : HasRoom net lookups.tables
  pub right : (k : ℕ) → k < knot_count knots → k ≢ part → AreRightOn net (in_knot knots.numbers k) lookups.tables
