use Rattle.reo_trees.proofs.loops.Places.{looped-so, looped-only}
use Rattle.reo_trees.proofs.loops.laws.loops_by_last_tokens.Goals as goal

pub returns : goal.returns
returns c limit ts = (looped-only limit ts, looped-so limit ts)
