use Rattle.std.proofs.Common.{length}
use Rattle.reo_refute.proofs.proving.outward.Outward.uncross.Given as goal

abbrev pub decreases-loop-side : goal.decreases-loop-side
decreases-loop-side l = length l.self.met
