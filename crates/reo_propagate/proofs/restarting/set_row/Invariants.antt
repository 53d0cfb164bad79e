use Rattle.reo_propagate.proofs.Anew.{IsRowSet}
use Rattle.reo_propagate.proofs.restarting.set_row.Given as goal

-- The flags so far are set.
abbrev pub invariant-loop-place : goal.invariant-loop-place
invariant-loop-place l = IsRowSet l.row l.place l.initial.table l.table
