use Rattle.reo_syntax_laws.proofs.trees_laws.Programs.{written}
use Rattle.reo_syntax_laws.proofs.trees_laws.Loose.{program_loose}
use Rattle.reo_syntax_laws.proofs.trees_laws.laws.programs_are_spelled.Goals as goal

pub returns : goal.returns
returns c text p says = program_loose p (written text p says)
