use Rattle.reo_net_base.specs.Net.{net_of}
use Rattle.reo_net_laws.specs.Knots.{knot_count}
use Rattle.reo_search_tables.proofs.Sorted.{ArePicked}
use Rattle.reo_search_tables.proofs.orders.orders_of.Given as goal

-- Each part has those of its joints that were gone through.
abbrev pub invariant-loop-joint : goal.invariant-loop-joint
invariant-loop-joint g l = ArePicked (net_of g.P.Primitive.behaviour l.circuit) l.knots.numbers l.order l.joint-index (knot_count l.knots) l.orders
