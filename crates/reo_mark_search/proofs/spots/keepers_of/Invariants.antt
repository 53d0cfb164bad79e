use Rattle.std.proofs.Common.{◌≡◌, ◌*◌, length}
use Rattle.reo_mark_search.proofs.spots.keepers_of.Given as goal

-- Two sides for each joint so far.
abbrev pub invariant-loop-index : goal.invariant-loop-index
invariant-loop-index g l = length l.made ≡ 2 * l.index
