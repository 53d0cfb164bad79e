use Rattle.std.proofs.Common.{List, length, get_or, ap, subst, arith}
use Rattle.std.specs.Prelude.{Option, None}
use Rattle.reo_values.specs.declared.value.Value.{Value}
use Rattle.reo_round.specs.Filling.{AreBlank}
use Rattle.reo_round.proofs.Filled.{blank_more}
use Rattle.reo_round.proofs.made_round.blank.Goals as goal

pub loop-init : goal.loop-init
loop-init c = record { count_is = ap (λ (xs : List (Option Value)). length xs) c.new-items.ensures; none = λ j. ap (λ (xs : List (Option Value)). get_or xs j None) c.new-items.ensures }

pub loop-preserved : goal.loop-preserved
loop-preserved c = blank_more _ _ _ c.in_ok-push.ensures.ok c.loop.invariant

pub returns : goal.returns
returns c = subst (λ n. AreBlank n c.loop.items) (omega arith) c.loop.invariant
