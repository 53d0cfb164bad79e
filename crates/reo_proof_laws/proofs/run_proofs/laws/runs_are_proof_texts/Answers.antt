use Rattle.reo_proof_laws.proofs.run_proofs.Joining.{runs_are_proof_texts}
use Rattle.reo_proof_laws.proofs.run_proofs.laws.runs_are_proof_texts.Goals as goal

pub returns : goal.returns
returns c = runs_are_proof_texts c.proved_texts_are_cut.ensures c.proved_texts_are_of_runs.ensures c.runs_are_trace_texts.ensures
