use Rattle.reo_net_base.specs.Net.{net_of}
use Rattle.reo_item_bounds.specs.Kept.{AreKeptBounds, AreUnnumbered}
use Rattle.reo_item_bounds.proofs.kept.Bounds.note_all.Given as goal

-- What is kept is right, and the joints have no number.
abbrev pub invariant-loop-index : goal.invariant-loop-index
invariant-loop-index g l = record {
  kept : AreKeptBounds (net_of g.P.Primitive.behaviour l.circuit) l.self;
  none : AreUnnumbered l.self.numbers l.joints;
}
