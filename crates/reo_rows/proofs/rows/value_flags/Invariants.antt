use Rattle.reo_rows.specs.Beginning.{AreValueFlags}
use Rattle.reo_rows.proofs.rows.value_flags.Given as goal

abbrev pub invariant-loop-joint : goal.invariant-loop-joint
invariant-loop-joint l = AreValueFlags l.items l.joint l.seen
