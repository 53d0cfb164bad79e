use Rattle.reo_command.specs.ReadSteps.{circuit_in}
use Rattle.reo_command.proofs.top_base.CaseLemmas.{no_memory_cases}
use Rattle.reo_draw_command.specs.Drawn.{DrawsCircuit}
use Rattle.reo_draw_command.proofs.circuit.write_circuit.Goals as goal

pub returns-clause-cases : goal.returns-clause-cases
returns-clause-cases g c = no_memory_cases _ _ (DrawsCircuit (circuit_in c.args.flat.now)) c.no_memory.ensures.says
