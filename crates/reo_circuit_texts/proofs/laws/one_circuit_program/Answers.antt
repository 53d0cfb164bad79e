use Rattle.reo_circuit_texts.proofs.OneLemmas.{one_program}
use Rattle.reo_circuit_texts.proofs.laws.one_circuit_program.Goals as goal

pub returns : goal.returns
returns c = λ text p q says other. one_program text p q says other
