use Rattle.reo_top.specs.Owed.{ListsParts}
use Rattle.reo_command.specs.ReadSteps.{circuit_in}
use Rattle.reo_command.proofs.top_base.CaseLemmas.{no_memory_cases}
use Rattle.reo_top.proofs.checking.write_parts.Goals as goal

pub returns-in-Err-clause-cases : goal.returns-in-Err-clause-cases
returns-in-Err-clause-cases g c = no_memory_cases _ _ (ListsParts (circuit_in c.args.flat.now)) c.no_memory.ensures.says
