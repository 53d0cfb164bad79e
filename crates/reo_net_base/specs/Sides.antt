-- The sides of a circuit, and rows for them.
use Rattle.std.specs.Prelude.{ℕ, List, length}
use Rattle.reo_net_base.specs.Net.{Net, all_sides}
use Rattle.reo_net_base.specs.Colouring.{AreRows}

-- How many sides a circuit has.
abbrev pub side_count : Net → ℕ
side_count net = length (all_sides net.primitives)

-- One row for each side of a circuit, each in the table of its side.
abbrev pub AreRowsOf : Net → List ℕ → Type 0
AreRowsOf net rows = AreRows (all_sides net.primitives) rows
