use Rattle.reo_runs.proofs.verdicts.LetIn.{not_let_in}
use Rattle.reo_runs.proofs.verdicts.laws.refused_items_are_not_let_in.Goals as goal

pub returns : goal.returns
returns c = not_let_in
