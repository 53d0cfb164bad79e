use Rattle.reo_trees.proofs.Versions.{one_of_any}
use Rattle.reo_trees.proofs.laws.one_program_of_any.Goals as goal

pub returns : goal.returns
returns c text p q d e = one_of_any text p q d e
