use Rattle.reo_expand.proofs.programs.Walks.{some_answer, one_refusal}
use Rattle.reo_expand.proofs.programs.laws.expanded_or_refused.Goals as goal

pub returns : goal.returns
returns c = record { some = some_answer; one = one_refusal }
