use Rattle.std.proofs.Common.{◌≡◌, ◌<◌, ℕ, false, get_or, length, ap, sym, ◌∙◌, arith}
use Rattle.std.specs.Prelude.{◌==◌, ◌&&◌}
use Rattle.reo_net_base.specs.declared.joint.Joint.{Joint}
use Rattle.reo_net_base.specs.Net.{Net, net_of, side_at}
use Rattle.reo_net_laws.proofs.KnotGroups.{more_picked}
use Rattle.reo_knots.proofs.groups.group_loops.Goals as goal

pub side_of-side-requires : goal.side_of-side-requires
side_of-side-requires g c =
    let lt : c.loop-index.index < length c.args.circuit.now.joints = omega arith in
    rw (c.joint-joint.ensures c.joint-joint.result) at (c.known.ensures.wired.givers c.loop-index.index c.joint-joint.result lt)

pub add-requires : goal.add-requires
add-requires g c =
    let below = c.requires.below c.side_of-side.result (omega (arith, c.side_of-side.ensures.in_range, c.requires.numbers)) in
    omega (arith, below, (c.loop-index.invariant c.joint-joint.result).one_each)

pub loop-index-preserved : goal.loop-index-preserved
loop-index-preserved g c =
    let net : Net = net_of g.P.Primitive.behaviour c.args.circuit.now in
    λ e.
    let side_is : side_at net (get_or net.joints c.loop-index.index e).giver ≡ c.side_of-side.result = ap (λ (j : Joint). side_at net j.giver) (c.joint-joint.ensures e) ∙ sym c.side_of-side.ensures.number in
    more_picked (λ k j. get_or c.args.loops.now j false && (get_or c.args.numbers.now (side_at net (get_or net.joints j e).giver) 0 == k)) c.loop-index.index c.loop-index.groups.items c.add.new.groups.items c.args.count
    (get_or c.args.numbers.now c.side_of-side.result 0) (get_or c.args.loops.now c.loop-index.index false) (c.loop-index.invariant e) c.in_ok-add.ensures
    (λ k lt. ap (λ (s : ℕ). get_or c.args.loops.now c.loop-index.index false && (get_or c.args.numbers.now s 0 == k)) side_is)

pub returns : goal.returns
returns g c =
    let last : c.loop-index.index ≡ length c.args.circuit.now.joints = omega arith in
    λ e. rw (← last) (c.loop-index.invariant e)
