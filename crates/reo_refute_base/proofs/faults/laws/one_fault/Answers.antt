use Rattle.reo_refute_base.proofs.faults.OneFault.{one_fault}
use Rattle.reo_refute_base.proofs.faults.laws.one_fault.Goals as goal

pub returns : goal.returns
returns c = one_fault
