use Rattle.std.proofs.Common.{◌≡◌, ◌++◌, take}
use Rattle.reo_listing.specs.texts.TableTexts.{rows_text}
use Rattle.reo_listing.proofs.texts.table.append_rows.Given as goal

abbrev pub invariant-loop-row : goal.invariant-loop-row
invariant-loop-row l = l.text ≡ l.initial.text ++ rows_text (take l.row-index l.rows)
