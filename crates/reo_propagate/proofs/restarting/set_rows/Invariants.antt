use Rattle.reo_propagate.specs.Setting.{AreSet, IsOfFirst}
use Rattle.reo_propagate.proofs.restarting.set_rows.Given as goal

-- The rows so far are set.
abbrev pub invariant-loop-row : goal.invariant-loop-row
invariant-loop-row l = AreSet (IsOfFirst l.rows l.row-index) l.initial.table l.table
