use Rattle.std.proofs.Common.{arith}
use Rattle.reo_trees.proofs.loops.Programs.{few-so, nowhere-so}
use Rattle.reo_trees.proofs.loops.laws.loops_by_trees.Goals as goal

pub returns : goal.returns
returns c ts p s = (few-so 8 ts p (omega arith) s, nowhere-so 8 ts p (omega arith) s)
