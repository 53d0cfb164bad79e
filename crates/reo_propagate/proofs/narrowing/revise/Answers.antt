use Rattle.std.proofs.Common.{◌≡◌, ◌∙◌, ◌<◌, ℕ, List, length, get_or, subst, sym, arith}
use Rattle.std.proofs.lemmas.List.{get_or_default}
use Rattle.reo_net_base.specs.Net.{Net, net_of}
use Rattle.reo_side_tables.specs.declared.board.Board.{Board}
use Rattle.reo_side_tables.specs.Listing.{Lists}
use Rattle.reo_side_tables.specs.Marks.{IsJointOf}
use Rattle.reo_side_tables.specs.Boards.{IsBoard}
use Rattle.reo_propagate.specs.declared.state.State.{State}
use Rattle.reo_propagate.specs.Queues.{among}
use Rattle.reo_propagate.proofs.Revising.{revising_none, revised_more, revising_more, revising_ends}
use Rattle.reo_propagate.proofs.narrowing.revise.Goals as goal

lists : (net : Net) (boards : List Board) (board : Board) (side : ℕ) → IsBoard net side (get_or boards side board) → board ≡ get_or boards side board → Lists (IsJointOf net side) board.joints
lists net boards board side is e = (subst (IsBoard net side) (sym e) is).joints

pub returns-in_err-tend_joint-clause-revised : goal.returns-in_err-tend_joint-clause-revised
returns-in_err-tend_joint-clause-revised g c =
    let net : Net = net_of g.P.Primitive.behaviour c.args.basis.now.circuit.now in
    let first : State = record { alive = c.args.state.now.alive; rows = c.see.new.rows; queue = c.args.state.now.queue } in
    let all = lists net c.args.basis.now.boards.now c.at.result.now c.args.side (c.requires.ready.boards_are.each c.args.side c.at.result.now c.requires.side) c.at.ensures in
    let lt : c.loop-index.index < length c.at.result.now.joints = omega (arith, c.loop-index-test.true, c.len-index-end.ensures) in
    let is : c.at-joint.result.now ≡ get_or c.at.result.now.joints c.loop-index.index 0 =
    c.at-joint.ensures ∙ get_or_default c.at.result.now.joints c.loop-index.index c.at-joint.result.now 0 lt in
    let of : IsJointOf net c.args.side c.at-joint.result.now = subst (IsJointOf net c.args.side) (sym is) (all.sound c.loop-index.index lt) in
    revised_more net c.args.basis.now.items.now (among c.args.sides.now) c.args.side c.at.result.now.joints c.loop-index.index first c.loop-index.state c.loop-index.invariant c.at-joint.result.now
    c.tend_joint.new.state of c.tend_joint.ensures.tended_at

pub loop-index-preserved : goal.loop-index-preserved
loop-index-preserved g c =
    let net : Net = net_of g.P.Primitive.behaviour c.args.basis.now.circuit.now in
    let first : State = record { alive = c.args.state.now.alive; rows = c.see.new.rows; queue = c.args.state.now.queue } in
    let all = lists net c.args.basis.now.boards.now c.at.result.now c.args.side (c.requires.ready.boards_are.each c.args.side c.at.result.now c.requires.side) c.at.ensures in
    let lt : c.loop-index.index < length c.at.result.now.joints = omega (arith, c.loop-index-test.true, c.len-index-end.ensures) in
    let is : c.at-joint.result.now ≡ get_or c.at.result.now.joints c.loop-index.index 0 =
    c.at-joint.ensures ∙ get_or_default c.at.result.now.joints c.loop-index.index c.at-joint.result.now 0 lt in
    let of : IsJointOf net c.args.side c.at-joint.result.now = subst (IsJointOf net c.args.side) (sym is) (all.sound c.loop-index.index lt) in
    revising_more net c.args.basis.now.items.now (among c.args.sides.now) c.args.side c.at.result.now.joints c.loop-index.index first c.loop-index.state c.loop-index.invariant c.at-joint.result.now
    c.tend_joint.new.state of c.tend_joint.ensures.tended_at is c.tend_joint.ensures.tables c.in_ok-tend_joint.ensures.tended c.in_ok-tend_joint.ensures.fewer

pub returns-clause-tended : goal.returns-clause-tended
returns-clause-tended g c =
    let net : Net = net_of g.P.Primitive.behaviour c.args.basis.now.circuit.now in
    let first : State = record { alive = c.args.state.now.alive; rows = c.see.new.rows; queue = c.args.state.now.queue } in
    let all = lists net c.args.basis.now.boards.now c.at.result.now c.args.side (c.requires.ready.boards_are.each c.args.side c.at.result.now c.requires.side) c.at.ensures in
    revising_ends net c.args.basis.now.items.now (among c.args.sides.now) c.args.side c.at.result.now.joints c.loop-index.index first c.loop-index.state c.loop-index.invariant c.known.ensures.wired
    (omega (arith, c.loop-index-test.false, c.len-index-end.ensures, c.loop-index.auto.index-end)) all

pub loop-index-init : goal.loop-index-init
loop-index-init g c =
    revising_none (net_of g.P.Primitive.behaviour c.args.basis.now.circuit.now) c.args.basis.now.items.now (among c.args.sides.now) c.args.side c.at.result.now.joints c.args.state.now.alive c.args.state.now.rows
    c.sift.new.rows c.see.new.rows c.args.state.now.queue c.see.ensures.tables c.sift.ensures.others c.in_ok-sift.ensures.sifted c.see.ensures.live c.see.ensures.notes c.see.ensures.seen
    c.requires.tended
