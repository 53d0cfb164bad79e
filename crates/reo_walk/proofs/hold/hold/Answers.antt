use Rattle.std.proofs.Common.{◌≡◌, ℕ, length, get_or, sym, ◌∙◌, subst, arith}
use Rattle.std.proofs.lemmas.List.{get_or_default}
use Rattle.reo_side_tables.specs.declared.board.Board.{Board}
use Rattle.reo_side_tables.specs.Listing.{Lists}
use Rattle.reo_side_tables.specs.Marks.{IsJointOf}
use Rattle.reo_walk.specs.Holding.{AllSuit}
use Rattle.reo_walk.specs.Places.{side_of_place}
use Rattle.reo_net_base.specs.Net.{Net, net_of}
use Rattle.reo_walk.proofs.Holding.{so_far_twice, suit_more, held_all}
use Rattle.reo_walk.proofs.hold.hold.Goals as goal

pub loop-index-preserved : goal.loop-index-preserved
loop-index-preserved g c =
    let net : Net = net_of g.P.Primitive.behaviour c.args.basis.now.circuit.now in
    let joint_is : c.at-joint.result.now ≡ get_or c.at.result.now.joints c.loop-index.index 0 = c.at-joint.ensures ∙ get_or_default c.at.result.now.joints c.loop-index.index c.at-joint.result.now 0 (omega (arith, c.len-index-end.ensures)) in
    record {
      held = so_far_twice net c.args.place c.args.row c.args.state.now.alive c.loop-index.state.alive c.hold_and_wake.new.state.alive c.loop-index.invariant.held c.in_ok-hold_and_wake.ensures.held;
      suits = suit_more net c.args.place c.args.row c.at.result.now.joints c.loop-index.index c.at-joint.result.now c.loop-index.state.alive c.hold_and_wake.new.state.alive joint_is c.in_ok-hold_and_wake.ensures.held c.loop-index.invariant.suits c.in_ok-hold_and_wake.ensures.suits;
      search = c.in_ok-hold_and_wake.ensures.search;
    }

pub returns-clause-held : goal.returns-clause-held
returns-clause-held g c =
    let net : Net = net_of g.P.Primitive.behaviour c.args.basis.now.circuit.now in
    let side : ℕ = side_of_place c.args.place in
    let last : c.loop-index.index ≡ length c.at.result.now.joints = omega (arith, c.len-index-end.ensures) in
    let board : c.at.result.now ≡ get_or c.args.basis.now.boards.now side c.at.result.now = subst (λ (s : ℕ). c.at.result.now ≡ get_or c.args.basis.now.boards.now s c.at.result.now) c.side_of_place.ensures c.at.ensures in
    let all : Lists (IsJointOf net side) c.at.result.now.joints =
    subst (λ (b : Board). Lists (IsJointOf net side) b.joints) (sym board) (c.requires.search.ready.boards_are.each side c.at.result.now c.requires.side).joints in
    held_all net c.args.place c.args.row c.args.state.now.alive c.loop-index.state.alive c.at.result.now.joints all c.loop-index.invariant.held
    (subst (λ (n : ℕ). AllSuit net c.args.place c.args.row c.at.result.now.joints n c.loop-index.state.alive) last c.loop-index.invariant.suits)
