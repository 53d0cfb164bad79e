use Rattle.std.proofs.Common.{ap}
use Rattle.reo_expand.proofs.base.Lifts.{expanded-lifted}
use Rattle.reo_expand.proofs.base.laws.lifted_stands_for_itself.Goals as goal

pub returns : goal.returns
returns c = λ p. ap (λ ds. record { declarations = ds }) (expanded-lifted p.declarations)
