use Rattle.std.proofs.Common.{◌≡◌, drop}
use Rattle.reo_net_base.specs.Colouring.{taken_at}
use Rattle.reo_net.proofs.colouring.taken.taken.Given as goal

abbrev pub invariant-loop-index : goal.invariant-loop-index
invariant-loop-index l = taken_at (drop l.index l.joints) (drop l.index l.items) l.end ≡ taken_at l.joints l.items l.end
