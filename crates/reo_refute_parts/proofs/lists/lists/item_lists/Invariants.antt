use Rattle.std.proofs.Common.{◌-◌, ◌*◌, length}
use Rattle.reo_net_base.specs.Net.{net_of}
use Rattle.reo_refute_base.specs.Items.{ArePassed}
use Rattle.reo_refute_parts.specs.lists.Visits.{AreGood, total}
use Rattle.reo_refute_parts.proofs.lists.lists.item_lists.Given as goal

-- Passes have come to the lists.
abbrev pub invariant-passes : goal.invariant-passes
invariant-passes g l = record {
  passed : ArePassed (net_of g.P.Primitive.behaviour l.circuit) l.lists.items;
  good : AreGood (net_of g.P.Primitive.behaviour l.circuit) l.lists.items;
}

-- How many items may still come.
abbrev pub decreases-passes : goal.decreases-passes
decreases-passes g l = 256 * length l.circuit.joints - total l.lists.items
