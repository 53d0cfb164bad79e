use Rattle.std.proofs.Common.{◌≡◌, ◌∙◌, ◌+◌, ap, [], arith}
use Rattle.reo_expand.specs.base.Lifting.{item_count}
use Rattle.reo_expand.specs.base.Steps.{walked}
use Rattle.reo_expand.proofs.base.Ones.{ended, steps-lifted, walked-ones}
use Rattle.reo_expand.proofs.base.laws.lifted_is_walked.Goals as goal

pub returns : goal.returns
returns c = λ p.
    let e : 0 + item_count p ≡ item_count p = omega arith in
    ap (walked 0) (steps-lifted [] p.declarations tt) ∙ walked-ones 0 (item_count p) (omega arith) ∙ ap ended e
