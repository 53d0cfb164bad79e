use Rattle.std.proofs.Common.{get_or, arith}
use Rattle.std.proofs.lemmas.List.Elements.{Contains-get_or}
use Rattle.reo_net_base.specs.Net.{net_of}
use Rattle.reo_item_bounds.proofs.Noting.{noted}
use Rattle.reo_item_bounds.proofs.kept.Bounds.note_all.Goals as goal

pub bound_for-bound-requires-clause-joint : goal.bound_for-bound-requires-clause-joint
bound_for-bound-requires-clause-joint g c = c.requires.joints (get_or c.args.joints.now c.loop-index.index 0) (Contains-get_or c.args.joints.now c.loop-index.index 0 (omega arith))

pub at_mut-requires : goal.at_mut-requires
at_mut-requires g c =
    let lt = c.requires.joints (get_or c.args.joints.now c.loop-index.index 0) (Contains-get_or c.args.joints.now c.loop-index.index 0 (omega arith)) in
    omega (arith, lt, c.loop-index.invariant.kept.one_bound)

pub returns-then-bound-ge-MANY : goal.returns-then-bound-ge-MANY
returns-then-bound-ge-MANY g c =
    noted (net_of g.P.Primitive.behaviour c.args.circuit.now) c.loop-index.self c.loop-index.invariant.kept c.known.ensures.wired c.args.joints.now c.requires.fed c.loop-index.invariant.none
    (get_or c.args.joints.now c.loop-index.index 0) (Contains-get_or c.args.joints.now c.loop-index.index 0 (omega arith)) c.bound_for-bound.result

pub loop-index-preserved : goal.loop-index-preserved
loop-index-preserved g c = record {
  kept = noted (net_of g.P.Primitive.behaviour c.args.circuit.now) c.loop-index.self c.loop-index.invariant.kept c.known.ensures.wired c.args.joints.now c.requires.fed c.loop-index.invariant.none
      (get_or c.args.joints.now c.loop-index.index 0) (Contains-get_or c.args.joints.now c.loop-index.index 0 (omega arith)) c.bound_for-bound.result;
  none = c.loop-index.invariant.none;
}
