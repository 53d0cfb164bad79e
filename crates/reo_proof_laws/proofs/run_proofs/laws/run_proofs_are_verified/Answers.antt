use Rattle.reo_proof_laws.proofs.run_proofs.Joining.{run_proofs_are_verified}
use Rattle.reo_proof_laws.proofs.run_proofs.laws.run_proofs_are_verified.Goals as goal

pub returns : goal.returns
returns c = run_proofs_are_verified c.runs_are_proof_texts.ensures c.proved_texts_are_verified.ensures
