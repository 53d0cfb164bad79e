use Rattle.std.proofs.Common.{◌≡◌, take}
use Rattle.reo_net_laws.specs.Sublists.{part_rows}
use Rattle.reo_part_plans.proofs.entry.rows_at.Given as goal

-- The rows at the sides so far.
abbrev pub invariant-loop-index : goal.invariant-loop-index
invariant-loop-index l = l.made ≡ part_rows (take l.index l.sides) l.rows
