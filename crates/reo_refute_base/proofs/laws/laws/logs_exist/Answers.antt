use Rattle.reo_refute_base.proofs.laws.Existing.{logs_exist}
use Rattle.reo_refute_base.proofs.laws.laws.logs_exist.Goals as goal

pub returns : goal.returns
returns c = logs_exist c.rows_differ.ensures c.choices_are_assignments.ensures
