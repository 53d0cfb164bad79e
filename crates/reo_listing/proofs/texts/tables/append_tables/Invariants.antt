use Rattle.std.proofs.Common.{◌≡◌, ◌++◌, take}
use Rattle.std.specs.List.{flat_map}
use Rattle.reo_listing.specs.texts.TableTexts.{table_text}
use Rattle.reo_listing.proofs.texts.tables.append_tables.Given as goal

abbrev pub invariant-loop-table : goal.invariant-loop-table
invariant-loop-table l = l.text ≡ l.initial.text ++ flat_map (table_text l.ports) (take l.table-index l.tables)
