use Rattle.reo_syntax_laws.proofs.trees_two_laws.Programs.{spelled}
use Rattle.reo_syntax_laws.proofs.trees_two_laws.laws.programs_two_are_spelled.Goals as goal

pub returns : goal.returns
returns c text p says = spelled c.loops_by_trees.ensures text p says
