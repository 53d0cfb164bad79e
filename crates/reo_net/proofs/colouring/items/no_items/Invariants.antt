use Rattle.std.proofs.Common.{◌≡◌, length}
use Rattle.reo_net.proofs.colouring.items.no_items.Given as goal

abbrev pub invariant-loop-index : goal.invariant-loop-index
invariant-loop-index l = length l.items ≡ l.index
