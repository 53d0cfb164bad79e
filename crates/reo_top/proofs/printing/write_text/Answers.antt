use Rattle.reo_top.specs.Owed.{PrintsProgram}
use Rattle.reo_command.proofs.top_base.CaseLemmas.{no_memory_cases}
use Rattle.reo_top.proofs.printing.write_text.Goals as goal

pub returns-in-Err-clause-cases : goal.returns-in-Err-clause-cases
returns-in-Err-clause-cases g c = no_memory_cases _ _ (PrintsProgram c.args.program.now) c.no_memory.ensures.says
