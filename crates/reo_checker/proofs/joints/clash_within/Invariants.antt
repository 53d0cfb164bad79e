use Rattle.std.proofs.Common.{◌≡◌, length}
use Rattle.reo_net_base.specs.Net.{net_of}
use Rattle.reo_checker.proofs.ChunkLemmas.{AreBytes}
use Rattle.reo_checker.proofs.joints.clash_within.Given as goal

abbrev pub invariant-loop-offset : goal.invariant-loop-offset
invariant-loop-offset g l = (length l.givers ≡ 256) × (length l.takers ≡ 256) × AreBytes (net_of g.P.Primitive.behaviour l.circuit) l.rows l.from l.offset l.givers l.takers
