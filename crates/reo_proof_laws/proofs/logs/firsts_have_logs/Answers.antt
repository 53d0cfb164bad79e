use Rattle.reo_proof_laws.proofs.FirstLogs.{firsts_have_logs}
use Rattle.reo_proof_laws.proofs.logs.firsts_have_logs.Goals as goal

pub returns : goal.returns
returns c = firsts_have_logs c.items_are_listed.ensures c.logs_exist.ensures
