use Rattle.std.proofs.Common.{sym}
use Rattle.reo_rows.proofs.Optional.{some_same}
use Rattle.reo_rows.proofs.standing.odd_of.Goals as goal

pub returns-in-None-fails_besides : goal.returns-in-None-fails_besides
returns-in-None-fails_besides g c = (c.in-Some.ensures.1, λ j of other. c.in-None-fails_besides.ensures j of (λ e. other (sym (some_same _ _ e))))
