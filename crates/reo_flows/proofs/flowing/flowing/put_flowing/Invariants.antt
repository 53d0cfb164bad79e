use Rattle.std.proofs.Common.{◌≡◌, take}
use Rattle.reo_net_base.specs.Net.{net_of}
use Rattle.reo_flows.specs.flowing.Flowing.{flowing_of}
use Rattle.reo_flows.proofs.flowing.flowing.put_flowing.Given as goal

-- Those of the joints so far.
abbrev pub invariant-loop-index : goal.invariant-loop-index
invariant-loop-index g l = l.list ≡ flowing_of (net_of g.P.Primitive.behaviour l.circuit) l.rows (take l.index l.joints)
