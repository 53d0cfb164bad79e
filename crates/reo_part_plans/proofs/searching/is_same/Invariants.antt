use Rattle.std.proofs.Common.{◌≡◌, take}
use Rattle.reo_part_plans.proofs.searching.is_same.Given as goal

-- The looks so far are the same.
abbrev pub invariant-loop-index : goal.invariant-loop-index
invariant-loop-index l = take l.index l.key ≡ take l.index l.other
