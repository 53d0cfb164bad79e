use Rattle.std.proofs.Common.{◌≡◌, take}
use Rattle.reo_rows.proofs.flags.RowFlags.copied.Given as goal

abbrev pub invariant-loop-row : goal.invariant-loop-row
invariant-loop-row l = l.rows ≡ take l.row-index l.self
