use Rattle.std.proofs.Common.{◌≡◌, ◌++◌}
use Rattle.circular_buffer.specs.Buffer.{buffer}
use Rattle.reo_buffers.proofs.buffer.put_all.Given as goal

abbrev pub invariant-loop-item : goal.invariant-loop-item
invariant-loop-item l = l.ring ≡ buffer (l.initial.ring.items ++ l.yielded) l.initial.ring.capacity
