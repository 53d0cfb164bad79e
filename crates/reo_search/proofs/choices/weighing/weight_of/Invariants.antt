use Rattle.std.proofs.Common.{◌≡◌, take}
use Rattle.reo_weights.specs.Weights.{capped}
use Rattle.reo_search.specs.choices.Remaining.{choices_of}
use Rattle.reo_search.proofs.choices.weighing.weight_of.Given as goal

abbrev pub invariant-loop-index : goal.invariant-loop-index
invariant-loop-index l = l.weight ≡ capped (choices_of (take l.index l.left))
