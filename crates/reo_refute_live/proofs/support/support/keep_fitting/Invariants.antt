use Rattle.reo_net_base.specs.Net.{net_of}
use Rattle.reo_refute_base.specs.Live.{alone}
use Rattle.reo_refute_live.specs.support.Families.{family_of}
use Rattle.reo_refute_live.proofs.support.Keeping.{AreLeft}
use Rattle.reo_refute_live.proofs.support.support.keep_fitting.Given as goal

-- The bytes that are left behind the columns so far.
abbrev pub invariant-loop-index : goal.invariant-loop-index
invariant-loop-index g l = AreLeft (net_of g.P.Primitive.behaviour l.asked.circuit.now) (alone (family_of l.asked.live.now) l.asked.held l.asked.value) l.asked.columns.now l.index l.initial.rows l.rows
