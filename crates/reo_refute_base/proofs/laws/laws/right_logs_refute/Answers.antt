use Rattle.reo_refute_base.proofs.laws.Refuting.{refutes}
use Rattle.reo_refute_base.proofs.laws.laws.right_logs_refute.Goals as goal

pub returns : goal.returns
returns c = refutes c.order_has_no_cycle.ensures c.items_can_stand.ensures c.assignments_are_choices.ensures
