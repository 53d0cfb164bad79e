use Rattle.reo_syntax_laws.proofs.trees_laws.Programs.{written}
use Rattle.reo_syntax_laws.proofs.trees_laws.laws.programs_are_written.Goals as goal

pub returns : goal.returns
returns c = written
