use Rattle.std.proofs.Common.{◌≡◌, map, take}
use Rattle.reo_open.specs.Opened.{opened}
use Rattle.reo_open.proofs.kinds.all_opened.Given as goal

abbrev pub invariant-loop-kind : goal.invariant-loop-kind
invariant-loop-kind l = l.made ≡ map opened (take l.kind-index l.kinds)
