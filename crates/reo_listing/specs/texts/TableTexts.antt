-- The lines of one boundary table.
use Rattle.std.specs.Prelude.{ℕ, List, [], ◌++◌, map, slice_index_or, codes}
use Rattle.std.specs.Fmt.{decimal}
use Rattle.std.specs.List.{flat_map}
use Rattle.reo_net_base.specs.declared.mark.Mark.{Mark}
use Rattle.reo_net_base.specs.declared.mark.Mark.TheVariants.{F, G, R, J}
use Rattle.reo_net_base.specs.declared.port.Port.{Port}
use Rattle.reo_trace.specs.Spaced.{spaced}
use Rattle.reo_listing.specs.declared.base.table.BoundaryTable.{BoundaryTable}

-- The letter of a mark.
abbrev pub letter : Mark → ℕ
letter F = 70
letter G = 71
letter R = 82
letter J = 74

abbrev pub letters : List Mark → List ℕ
letters marks = map letter marks

-- The line of a list of marks: their letters.
abbrev pub row_line : List Mark → List ℕ
row_line marks = letters marks ++ codes "\n"

abbrev pub rows_text : List (List Mark) → List ℕ
rows_text rows = flat_map row_line rows

-- The name of a port. What is no port has none.
abbrev pub port_name : List Port → ℕ → List ℕ
port_name ports number = slice_index_or (map (λ (port : Port). port.name) ports) number []

-- The names of some ports, with one space between each two.
abbrev pub names_text : List Port → List ℕ → List ℕ
names_text ports numbers = spaced (port_name ports) numbers

-- The line of a part: its number, and the names of its ports.
unfoldable pub part_line : List Port → BoundaryTable → List ℕ
part_line ports table = codes "part " ++ decimal table.part ++ codes ": " ++ names_text ports table.ports ++ codes "\n"

-- The line of the part, and a line for each list.
abbrev pub table_text : List Port → BoundaryTable → List ℕ
table_text ports table = part_line ports table ++ rows_text table.rows
