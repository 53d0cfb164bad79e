-- The text of boundary tables.
use Rattle.std.specs.Prelude.{ℕ, List, ◌++◌, length, codes}
use Rattle.std.specs.Fmt.{decimal}
use Rattle.std.specs.List.{flat_map, sum_by}
use Rattle.reo_net_base.specs.declared.port.Port.{Port}
use Rattle.reo_listing.specs.declared.base.table.BoundaryTable.{BoundaryTable}
use Rattle.reo_listing.specs.texts.TableTexts.{table_text}

-- How many lists some tables have.
abbrev pub row_count : List BoundaryTable → ℕ
row_count tables = sum_by (λ (table : BoundaryTable). length table.rows) tables

-- The line that says how many tables and lists there are.
unfoldable pub count_line : ℕ → ℕ → List ℕ
count_line parts rows = codes "listed " ++ decimal parts ++ codes " parts, " ++ decimal rows ++ codes " rows\n"

-- The lines of each table, and then how many tables and lists there are.
abbrev pub tables_text : List Port → List BoundaryTable → List ℕ
tables_text ports tables = flat_map (table_text ports) tables ++ count_line (length tables) (row_count tables)
