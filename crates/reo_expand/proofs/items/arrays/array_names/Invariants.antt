use Rattle.std.proofs.Common.{◌≡◌, pos, map}
use Rattle.std.specs.List.{range_with_len}
use Rattle.reo_expand.specs.base.Expansion.{placed_name as placed}
use Rattle.reo_expand.proofs.items.arrays.array_names.Given as goal

abbrev pub invariant-loop-place : goal.invariant-loop-place
invariant-loop-place l = l.names ≡ map (λ j. placed l.name (pos j)) (range_with_len 0 l.place)
