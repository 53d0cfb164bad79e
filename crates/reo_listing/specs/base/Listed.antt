-- What listing the boundary tables of a circuit answers.
use Rattle.std.specs.Prelude.{ℕ, ◌<◌, ◌≤◌, ◌≡◌, Bool, true, false, List, Result, Ok, Err, filter, length, map, slice_index_or, nat_lt}
use Rattle.std.specs.List.{range_with_len}
use Rattle.reo_net_base.specs.Net.{Net, Wiring}
use Rattle.reo_net_base.specs.Sides.{side_count}
use Rattle.reo_net_laws.specs.Parts.{SameKnot}
use Rattle.reo_net_laws.specs.Knots.{AreNumbers, in_knot}
use Rattle.reo_kinds.specs.declared.kind.Kind.{Kind}
use Rattle.reo_open.specs.Opened.{open_net, is_filter, HasNoFilter}
use Rattle.reo_weights.specs.Over.{IsWithin, IsSpent}
use Rattle.reo_listing.specs.declared.base.table.BoundaryTable.{BoundaryTable}
use Rattle.reo_listing.specs.declared.base.fault.ListFault.{ListFault}
use Rattle.reo_listing.specs.declared.base.fault.ListFault.TheVariants.{Filter, Spent, Rows, NoMemory}
use Rattle.reo_listing.specs.base.Tables.{ports_in, IsTable, HasMany, most_rows}

-- The first filter among some kinds.
pub record IsFirstFilter (kinds : List Kind) (i : ℕ) : Type 0 where
  pub in_range : i < length kinds
  pub here : (d : Kind) → is_filter (slice_index_or kinds i d) ≡ true
  pub before : (k : ℕ) (d : Kind) → k < i → is_filter (slice_index_or kinds k d) ≡ false

module _ (net : Net) (ports budget : ℕ) (numbers : List ℕ) where
  -- The ports of a part.
  abbrev pub ports_of : ℕ → List ℕ
  ports_of part = ports_in net ports (in_knot numbers part)

  -- Whether a part has ports.
  abbrev pub has_ports : ℕ → Bool
  has_ports part = nat_lt 0 (length (ports_of part))

  -- The table of a part within the budget.
  pub record IsTableOf (t : BoundaryTable) : Type 0 where
    pub ports_are : t.ports ≡ ports_of t.part
    pub within : IsWithin budget net (in_knot numbers t.part)
    pub is_table : IsTable net (in_knot numbers t.part) t.ports t.rows
    pub few : length t.rows ≤ most_rows

  -- One table for each of the first so many parts that has ports, in order.
  pub record AreTables (count : ℕ) (tables : List BoundaryTable) : Type 0 where
    pub parts : map (λ (t : BoundaryTable). t.part) tables ≡ filter has_ports (range_with_len 0 count)
    pub each : (m : ℕ) (d : BoundaryTable) → m < length tables → IsTableOf (slice_index_or tables m d)

  -- A part with ports, before which each part with ports has its table.
  pub record IsNextPart (count part : ℕ) : Type 0 where
    pub in_range : part < count
    pub has : has_ports part ≡ true
    pub tables : List BoundaryTable
    pub before : AreTables part tables

  -- What is answered for so many parts. Running out of memory may come at any time.
  abbrev pub ListsParts : ℕ → Result (List BoundaryTable) ListFault → Type 0
  ListsParts count (Ok tables) = AreTables count tables
  ListsParts count (Err (Filter i)) = ⊥
  ListsParts count (Err (Spent part weight)) = IsNextPart count part × IsSpent budget net (in_knot numbers part) weight
  ListsParts count (Err (Rows part)) = IsNextPart count part × IsWithin budget net (in_knot numbers part) × HasMany net (in_knot numbers part) (ports_of part)
  ListsParts count (Err NoMemory) = Unit {0}

-- What is answered for the parts of an open circuit, in their one numbering.
abbrev pub ListsOpen : Net → ℕ → ℕ → Result (List BoundaryTable) ListFault → Type 0
ListsOpen net ports budget result =
    (numbers : List ℕ) (count : ℕ) → AreNumbers (SameKnot net) (side_count net) numbers count → ListsParts net ports budget numbers count result

-- What is answered for a circuit: the first filter, if there is one, and else what its open circuit says. Running out of
-- memory may come at any time.
abbrev pub Lists : Wiring Kind → ℕ → Result (List BoundaryTable) ListFault → Type 0
Lists w budget (Err (Filter i)) = IsFirstFilter w.primitives i
Lists w budget (Err NoMemory) = Unit {0}
Lists w budget result = HasNoFilter w.primitives × ListsOpen (open_net w) w.ports budget result
