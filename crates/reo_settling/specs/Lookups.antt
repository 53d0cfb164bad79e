-- What is looked up when parts are settled.
use Rattle.std.specs.Prelude.{ℕ, ◌<◌, ◌≤◌, ◌≡◌, ◌≢◌, Bool, true, List, [], length, slice_index_or}
use Rattle.reo_net_base.specs.Net.{Net}
use Rattle.reo_net_base.specs.Shapes.{TreatAlike}
use Rattle.reo_net_base.specs.Wired.{IsWired}
use Rattle.reo_net_laws.specs.Knots.{Knotted, AreKnots, knot_count}
use Rattle.reo_search_tables.specs.Orders.{AreOrders}
use Rattle.reo_flows.specs.flowing.Flowing.{AreFlowingIn, AreFlowingOf}
use Rattle.reo_part_plans.specs.Plannings.{Kept, AreFewer, IsElsewhere, PartOf, in_part, is_settled, serves}
use Rattle.reo_mark_search.specs.MarkFinding.{IsMarkSearch}
use Rattle.reo_item_bounds.specs.Kept.{AreKeptBounds}
use Rattle.reo_part_plans.specs.Remembered.{AreAllRemembered}
use Rattle.reo_settling.specs.declared.lookups.Lookups.{Lookups}
use Rattle.reo_settling.specs.Held.{is_fresh, MayBeFresh, MayBeKept}

-- Where the joints that flow are told, they are those of each settled part by the rows that are kept.
abbrev pub AreToldFor : Net → Knotted → Kept → Lookups → Type 0
AreToldFor net knots kept lookups = lookups.told ≡ true
    → AreFlowingIn net knots kept.rows (is_settled kept) lookups.flowing

-- The joints of each part, in order, and those that flow, where they are told; a mark for each part, and tables that are
-- right where a part is marked and settled; bounds on items; rows that are remembered; and what the search by marks keeps.
pub record AreLookups (net : Net) (knots : Knotted) (kept : Kept) (lookups : Lookups) : Type 0 where
  pub orders : AreOrders net knots lookups.orders
  pub one_list : length lookups.flowing ≡ knot_count knots
  pub flowing : AreToldFor net knots kept lookups
  pub one_each : length lookups.fresh ≡ knot_count knots
  pub tables : MayBeKept net knots kept lookups.fresh lookups.tables
  pub bounds : AreKeptBounds net lookups.bounds
  pub plans : AreAllRemembered net knots lookups.plans
  pub marks : IsMarkSearch net lookups.marks

-- The same but for the joints that flow, with tables that are right wherever a part is marked.
pub record AreSteady (net : Net) (knots : Knotted) (lookups : Lookups) : Type 0 where
  pub orders : AreOrders net knots lookups.orders
  pub one_list : length lookups.flowing ≡ knot_count knots
  pub one_each : length lookups.fresh ≡ knot_count knots
  pub tables : MayBeFresh net knots lookups.fresh lookups.tables
  pub bounds : AreKeptBounds net lookups.bounds
  pub plans : AreAllRemembered net knots lookups.plans
  pub marks : IsMarkSearch net lookups.marks

-- The same, for the circuit of a part.
abbrev pub AreSteadyFor : {P : Type 0} → Net → PartOf P → Lookups → Type 0
AreSteadyFor net part lookups = AreSteady net part.planning.now.knots.now lookups

-- The joints that are listed for a part are those that flow in it by some rows.
abbrev pub AreFlowingAt : {P : Type 0} → Net → PartOf P → List ℕ → Lookups → Type 0
AreFlowingAt net part rows lookups =
    AreFlowingOf net (in_part part) rows (slice_index_or lookups.flowing part.number [])

-- What is looked up stays right where a circuit changes at no primitive of a part that is still settled, and nothing
-- changes in what is done with items.
abbrev pub LookupsStay : Type 0
LookupsStay = (net other : Net) → IsWired net → (knots : Knotted) → AreKnots net knots
    → (old new : Kept) → AreFewer old new → IsElsewhere net other knots new
    → TreatAlike net.primitives other.primitives
    → (lookups : Lookups) → AreLookups net knots old lookups → AreLookups other knots new lookups

-- Of parts that are not settled the tables are not fresh any more, and all else stays.
pub record IsForgotten (kept : Kept) (old new : Lookups) : Type 0 where
  pub orders : new.orders ≡ old.orders
  pub flowing : new.flowing ≡ old.flowing
  pub told : new.told ≡ old.told
  pub tables : new.tables ≡ old.tables
  pub bounds : new.bounds ≡ old.bounds
  pub plans : new.plans ≡ old.plans
  pub marks : new.marks ≡ old.marks
  pub one_each : length new.fresh ≡ length old.fresh
  pub fewer : (k : ℕ) → k < length new.fresh → is_fresh new.fresh k ≡ true
      → (is_fresh old.fresh k ≡ true) × (is_settled kept k ≡ true)

-- The part comes after another, and all parts between serve and are told.
pub record IsNextToSettle (budget : ℕ) (told : Bool) (from : ℕ) (kept : Kept) (part : ℕ) : Type 0 where
  pub from_on : from ≤ part
  pub in_range : part ≤ length kept.settled
  pub served : (k : ℕ) → from ≤ k → k < part → serves kept budget k ≡ true
  pub only_told : from < part → told ≡ true

-- The lists of joints of all other parts stay, and so does whether they are told.
pub record IsListedAt (part : ℕ) (old new : Lookups) : Type 0 where
  pub told : new.told ≡ old.told
  pub one_each : length new.flowing ≡ length old.flowing
  pub others : (k : ℕ) → k ≢ part → slice_index_or new.flowing k [] ≡ slice_index_or old.flowing k []

-- All lists of joints stay.
pub record AreListed (old new : Lookups) : Type 0 where
  pub told : new.told ≡ old.told
  pub flowing : new.flowing ≡ old.flowing
