use Rattle.reo_proof_laws.proofs.Narrowness.{within_is_narrow}
use Rattle.reo_proof_laws.proofs.logs.within_is_narrow.Goals as goal

pub returns : goal.returns
returns c = within_is_narrow
