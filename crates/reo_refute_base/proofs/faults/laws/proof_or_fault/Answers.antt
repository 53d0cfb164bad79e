use Rattle.reo_refute_base.proofs.faults.OneFault.{proof_or_fault}
use Rattle.reo_refute_base.proofs.faults.laws.proof_or_fault.Goals as goal

pub returns : goal.returns
returns c = proof_or_fault
