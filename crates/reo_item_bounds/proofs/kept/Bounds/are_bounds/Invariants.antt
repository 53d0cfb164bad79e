use Rattle.std.proofs.Common.{◌<◌, ℕ, slice_index}
use Rattle.reo_net_base.specs.Net.{net_of}
use Rattle.reo_item_bounds.specs.Bounds.{IsBoundAt}
use Rattle.reo_item_bounds.specs.Kept.{AreKeptBounds}
use Rattle.reo_item_bounds.proofs.kept.Bounds.are_bounds.Given as goal

-- What is noted for each so far is a bound.
abbrev pub invariant-loop-index : goal.invariant-loop-index
invariant-loop-index g l = record {
  kept : AreKeptBounds (net_of g.P.Primitive.behaviour l.circuit) l.self;
  far : (m : ℕ) → m < l.index → IsBoundAt (net_of g.P.Primitive.behaviour l.circuit) (slice_index l.self.bounds) (slice_index l.joints m);
}
