-- Tables that are kept.
use Rattle.std.specs.Prelude.{ℕ, ◌<◌, ◌≡◌, Bool, true, false, List, Option, Some, None, slice_index_or}
use Rattle.reo_net_base.specs.Net.{Net}
use Rattle.reo_net_laws.specs.Knots.{Knotted, in_knot, knot_count}
use Rattle.reo_search_tables.specs.declared.tables.SearchTables.{SearchTables}
use Rattle.reo_search_tables.specs.SearchTables.{AreRightOn, HasRoom}
use Rattle.reo_part_plans.specs.Plannings.{Kept, is_settled}

-- Whether the tables were made for the state of a part.
abbrev pub is_fresh : List Bool → ℕ → Bool
is_fresh fresh k = slice_index_or fresh k false

-- There is room for the circuit, and what the tables have of each part that is fresh is right.
pub record AreFreshTables (net : Net) (knots : Knotted) (fresh : List Bool) (tables : SearchTables) : Type 0 where
  pub room : HasRoom net tables
  pub right : (k : ℕ) → k < knot_count knots → is_fresh fresh k ≡ true → AreRightOn net (in_knot knots.numbers k) tables

-- And of each part that is fresh and settled.
pub record AreKeptTables (net : Net) (knots : Knotted) (kept : Kept) (fresh : List Bool) (tables : SearchTables) : Type 0 where
  pub room : HasRoom net tables
  pub right : (k : ℕ) → k < knot_count knots → is_fresh fresh k ≡ true → is_settled kept k ≡ true
      → AreRightOn net (in_knot knots.numbers k) tables

-- The tables are fresh, if there are any.
abbrev pub MayBeFresh : Net → Knotted → List Bool → Option SearchTables → Type 0
MayBeFresh net knots fresh None = Unit {0}
MayBeFresh net knots fresh (Some tables) = AreFreshTables net knots fresh tables

-- The tables may be kept, if there are any.
abbrev pub MayBeKept : Net → Knotted → Kept → List Bool → Option SearchTables → Type 0
MayBeKept net knots kept fresh None = Unit {0}
MayBeKept net knots kept fresh (Some tables) = AreKeptTables net knots kept fresh tables
