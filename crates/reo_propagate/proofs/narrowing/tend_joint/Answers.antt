use Rattle.std.proofs.Common.{◌≡◌, ◌≢◌, ℕ, true, refl}
use Rattle.reo_net_base.specs.Net.{Net, net_of}
use Rattle.reo_joint_values.proofs.Inside.{at_inside}
use Rattle.reo_rows.specs.Sets.{names_of, family_of}
use Rattle.reo_propagate.specs.declared.state.State.{State}
use Rattle.reo_propagate.specs.Queues.{among}
use Rattle.reo_propagate.proofs.Cutting.{same_all}
use Rattle.reo_propagate.proofs.Resting.{rows_woken, other_apart}
use Rattle.reo_propagate.proofs.Tending.{tended_woken, tended_same}
use Rattle.reo_propagate.proofs.Revising.{at_joint, rows_same}
use Rattle.reo_propagate.proofs.narrowing.tend_joint.Goals as goal

pub wake-requires-clause-noted : goal.wake-requires-clause-noted
wake-requires-clause-noted g c =
    let net : Net = net_of g.P.Primitive.behaviour c.args.basis.now.circuit.now in
    let other : ℕ = c.other_side-other.result in
    let is_in : among c.args.sides.now other ≡ true =
    at_inside net (among c.args.sides.now) c.requires.closed c.args.joint c.args.side other c.requires.joint.in_range c.requires.joint.here c.other_side-other.ensures.at.here c.requires.inside in
    let apart : other ≢ c.args.side = other_apart net c.known.ensures.wired c.args.joint c.args.side other c.requires.joint.in_range c.other_side-other.ensures.two in
    λ sleeps. (c.requires.tended.at_rest other is_in apart sleeps).sifted.noted

pub returns-in_err-wake-clause-tended_at : goal.returns-in_err-wake-clause-tended_at
returns-in_err-wake-clause-tended_at g c =
    let new : State = record { alive = c.thin-loss.new.alive; rows = c.wake.new.rows; queue = c.wake.new.queue } in
    at_joint (net_of g.P.Primitive.behaviour c.args.basis.now.circuit.now) (names_of c.args.basis.now.items.now) c.args.side c.args.joint c.args.state.now new c.thin-loss.result c.thin-loss.ensures.cut
    c.thin-loss.ensures.thinned (rows_same c.args.side c.args.state.now.rows c.wake.new.rows c.in_err-wake.ensures.err)

pub returns-in_ok-wake-clause-tended_at : goal.returns-in_ok-wake-clause-tended_at
returns-in_ok-wake-clause-tended_at g c =
    let net : Net = net_of g.P.Primitive.behaviour c.args.basis.now.circuit.now in
    let other : ℕ = c.other_side-other.result in
    let new : State = record { alive = c.thin-loss.new.alive; rows = c.wake.new.rows; queue = c.wake.new.queue } in
    at_joint net (names_of c.args.basis.now.items.now) c.args.side c.args.joint c.args.state.now new c.thin-loss.result c.thin-loss.ensures.cut c.thin-loss.ensures.thinned
    (rows_woken net (family_of c.thin-loss.new.alive) c.args.state.now.rows c.wake.new.rows c.args.state.now.queue c.wake.new.queue c.args.side other c.args.joint c.thin-loss.result.flow
    c.in_ok-wake.ensures.awake (other_apart net c.known.ensures.wired c.args.joint c.args.side other c.requires.joint.in_range c.other_side-other.ensures.two))

pub returns-in_ok-wake-clause-tended : goal.returns-in_ok-wake-clause-tended
returns-in_ok-wake-clause-tended g c =
    let net : Net = net_of g.P.Primitive.behaviour c.args.basis.now.circuit.now in
    let other : ℕ = c.other_side-other.result in
    let is_in : among c.args.sides.now other ≡ true =
    at_inside net (among c.args.sides.now) c.requires.closed c.args.joint c.args.side other c.requires.joint.in_range c.requires.joint.here c.other_side-other.ensures.at.here c.requires.inside in
    tended_woken net c.known.ensures.wired (names_of c.args.basis.now.items.now) (among c.args.sides.now) c.args.side other c.args.joint c.args.state.now.alive c.thin-loss.new.alive c.thin-loss.result
    c.args.state.now.rows c.wake.new.rows c.args.state.now.queue c.wake.new.queue c.other_side-other.ensures.at is_in
    (other_apart net c.known.ensures.wired c.args.joint c.args.side other c.requires.joint.in_range c.other_side-other.ensures.two)
    c.other_side-other.ensures.two c.thin-loss.ensures.cut c.in_ok-wake.ensures.awake c.requires.tended

pub returns-else-loss-clause-tended_at : goal.returns-else-loss-clause-tended_at
returns-else-loss-clause-tended_at g c =
    let new : State = record { alive = c.thin-loss.new.alive; rows = c.args.state.now.rows; queue = c.args.state.now.queue } in
    at_joint (net_of g.P.Primitive.behaviour c.args.basis.now.circuit.now) (names_of c.args.basis.now.items.now) c.args.side c.args.joint c.args.state.now new c.thin-loss.result c.thin-loss.ensures.cut
    c.thin-loss.ensures.thinned (rows_same c.args.side c.args.state.now.rows c.args.state.now.rows refl)

pub returns-else-loss-clause-tended : goal.returns-else-loss-clause-tended
returns-else-loss-clause-tended g c =
    let net : Net = net_of g.P.Primitive.behaviour c.args.basis.now.circuit.now in
    tended_same net (names_of c.args.basis.now.items.now) (among c.args.sides.now) c.args.side c.args.state.now.alive c.thin-loss.new.alive c.args.state.now.rows c.args.state.now.queue
    (same_all c.args.joint c.args.state.now.alive c.thin-loss.new.alive c.thin-loss.result c.thin-loss.ensures.cut c.if-loss.false) c.requires.tended
