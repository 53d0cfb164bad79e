use Rattle.reo_proof_laws.proofs.LogLines.{logs_are_lines}
use Rattle.reo_proof_laws.proofs.logs.logs_are_lines.Goals as goal

pub returns : goal.returns
returns c = logs_are_lines
