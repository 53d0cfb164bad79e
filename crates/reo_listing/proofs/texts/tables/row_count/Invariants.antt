use Rattle.std.proofs.Common.{◌≡◌, ◌≤◌, ◌*◌, ◌^◌, take}
use Rattle.reo_listing.specs.texts.TablesText.{row_count}
use Rattle.reo_listing.proofs.texts.tables.row_count.Given as goal

abbrev pub invariant-loop-table : goal.invariant-loop-table
invariant-loop-table l = (l.count ≡ row_count (take l.table-index l.tables)) × (l.count ≤ l.table-index * 2 ^ 64)
