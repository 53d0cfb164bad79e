use Rattle.std.proofs.Common.{◌≡◌, ◌≢◌, ◌⊎◌, inl, inr, ℕ, Bool, true, List, [], length, get_or, refl, sym, ◌∙◌}
use Rattle.reo_net_base.specs.Net.{Net, net_of}
use Rattle.reo_joint_values.specs.Values.{Names, no_joint, AtSide}
use Rattle.reo_joint_values.proofs.Inside.{at_inside}
use Rattle.reo_rows.specs.Sets.{names_of}
use Rattle.reo_side_tables.specs.Marks.{IsJointOf}
use Rattle.reo_propagate.specs.Queues.{among}
use Rattle.reo_propagate.proofs.Revising.{ready_alike}
use Rattle.reo_walk.specs.Places.{side_of_place}
use Rattle.reo_walk.proofs.Holding.{less_flags, all_done}
use Rattle.reo_walk.proofs.Waking.{kept_begin, kept_one, kept_both, kept_same, two_of}
use Rattle.reo_walk.proofs.hold.hold_and_wake.Goals as goal

pub wake-requires-then-loss-clause-noted : goal.wake-requires-then-loss-clause-noted
wake-requires-then-loss-clause-noted g c =
    let net : Net = net_of g.P.Primitive.behaviour c.args.basis.now.circuit.now in
    let names : Names = names_of c.args.basis.now.items.now in
    let inside : ℕ → Bool = among c.args.sides.now in
    let joint : ℕ = c.args.joint in
    let a : ℕ = c.giver_side-giver.result in
    let b : ℕ = c.taker_side-taker.result in
    let old : List (List Bool) = c.args.state.now.alive in
    let new : List (List Bool) = c.hold_joint-loss.new.alive in
    let held = c.hold_joint-loss.ensures in
    let wired = c.known.ensures.wired in
    let in_range = c.requires.joint.in_range in
    let apart : a ≢ b = λ e. wired.apart joint no_joint in_range (sym c.giver_side-giver.ensures.side ∙ e ∙ c.taker_side-taker.ensures.side) in
    let two : (t : ℕ) → AtSide net joint t → (t ≡ a) ⊎ (t ≡ b) = two_of net joint a b c.giver_side-giver.ensures.side c.taker_side-taker.ensures.side in
    let of_a : IsJointOf net a joint = record { in_range = in_range; here = inl (sym c.giver_side-giver.ensures.side) } in
    let of_b : IsJointOf net b joint = record { in_range = in_range; here = inr (sym c.taker_side-taker.ensures.side) } in
    let a_in : inside a ≡ true = at_inside net inside c.requires.closed joint (side_of_place c.args.place) a in_range c.requires.joint.here (inl (sym c.giver_side-giver.ensures.side)) c.requires.inside in
    let b_in : inside b ≡ true = at_inside net inside c.requires.closed joint (side_of_place c.args.place) b in_range c.requires.joint.here (inr (sym c.taker_side-taker.ensures.side)) c.requires.inside in
    let less = less_flags net c.args.place c.args.row joint (length (get_or old joint [])) old new c.hold_joint-loss.result held in
    let first = kept_begin net wired names inside joint a b apart two of_a of_b a_in b_in old new c.hold_joint-loss.result.flow less held.elsewhere held.flows c.args.state.now.rows c.args.state.now.queue c.requires.search.tended in
    let one = kept_one net wired names inside joint a b apart two of_a of_b a_in b_in old new c.hold_joint-loss.result.flow less held.elsewhere held.flows c.args.state.now.rows c.wake.new.rows c.args.state.now.queue c.wake.new.queue first c.in_ok-wake.ensures.awake in
    λ slept. (one.at_rest b b_in slept).sifted.noted

pub returns-in_ok-wake-2-clause-suits : goal.returns-in_ok-wake-2-clause-suits
returns-in_ok-wake-2-clause-suits g c =
    all_done (net_of g.P.Primitive.behaviour c.args.basis.now.circuit.now) c.args.place c.args.row c.args.joint (length (get_or c.args.state.now.alive c.args.joint [])) c.args.state.now.alive c.hold_joint-loss.new.alive c.hold_joint-loss.result c.hold_joint-loss.ensures refl

pub returns-in_ok-wake-2-clause-search : goal.returns-in_ok-wake-2-clause-search
returns-in_ok-wake-2-clause-search g c =
    let net : Net = net_of g.P.Primitive.behaviour c.args.basis.now.circuit.now in
    let names : Names = names_of c.args.basis.now.items.now in
    let inside : ℕ → Bool = among c.args.sides.now in
    let joint : ℕ = c.args.joint in
    let a : ℕ = c.giver_side-giver.result in
    let b : ℕ = c.taker_side-taker.result in
    let old : List (List Bool) = c.args.state.now.alive in
    let new : List (List Bool) = c.hold_joint-loss.new.alive in
    let held = c.hold_joint-loss.ensures in
    let wired = c.known.ensures.wired in
    let in_range = c.requires.joint.in_range in
    let apart : a ≢ b = λ e. wired.apart joint no_joint in_range (sym c.giver_side-giver.ensures.side ∙ e ∙ c.taker_side-taker.ensures.side) in
    let two : (t : ℕ) → AtSide net joint t → (t ≡ a) ⊎ (t ≡ b) = two_of net joint a b c.giver_side-giver.ensures.side c.taker_side-taker.ensures.side in
    let of_a : IsJointOf net a joint = record { in_range = in_range; here = inl (sym c.giver_side-giver.ensures.side) } in
    let of_b : IsJointOf net b joint = record { in_range = in_range; here = inr (sym c.taker_side-taker.ensures.side) } in
    let a_in : inside a ≡ true = at_inside net inside c.requires.closed joint (side_of_place c.args.place) a in_range c.requires.joint.here (inl (sym c.giver_side-giver.ensures.side)) c.requires.inside in
    let b_in : inside b ≡ true = at_inside net inside c.requires.closed joint (side_of_place c.args.place) b in_range c.requires.joint.here (inr (sym c.taker_side-taker.ensures.side)) c.requires.inside in
    let less = less_flags net c.args.place c.args.row joint (length (get_or old joint [])) old new c.hold_joint-loss.result held in
    let first = kept_begin net wired names inside joint a b apart two of_a of_b a_in b_in old new c.hold_joint-loss.result.flow less held.elsewhere held.flows c.args.state.now.rows c.args.state.now.queue c.requires.search.tended in
    let one = kept_one net wired names inside joint a b apart two of_a of_b a_in b_in old new c.hold_joint-loss.result.flow less held.elsewhere held.flows c.args.state.now.rows c.wake.new.rows c.args.state.now.queue c.wake.new.queue first c.in_ok-wake.ensures.awake in
    let last = kept_both net wired names inside joint a b apart two of_a of_b a_in b_in old new c.hold_joint-loss.result.flow less held.elsewhere held.flows c.wake.new.rows c.wake-then-loss.new.rows c.wake.new.queue c.wake-then-loss.new.queue one c.in_ok-wake-2.ensures.awake in
    record { ready = ready_alike net c.args.basis.now.boards.now c.args.basis.now.ends.now c.args.basis.now.items.now old new held.alike c.requires.search.ready; tables = c.in_ok-wake-2.ensures.tables; tended = last }

pub returns-else-loss-clause-suits : goal.returns-else-loss-clause-suits
returns-else-loss-clause-suits g c =
    all_done (net_of g.P.Primitive.behaviour c.args.basis.now.circuit.now) c.args.place c.args.row c.args.joint (length (get_or c.args.state.now.alive c.args.joint [])) c.args.state.now.alive c.hold_joint-loss.new.alive c.hold_joint-loss.result c.hold_joint-loss.ensures refl

pub returns-else-loss-clause-search : goal.returns-else-loss-clause-search
returns-else-loss-clause-search g c =
    let net : Net = net_of g.P.Primitive.behaviour c.args.basis.now.circuit.now in
    let names : Names = names_of c.args.basis.now.items.now in
    let inside : ℕ → Bool = among c.args.sides.now in
    let joint : ℕ = c.args.joint in
    let a : ℕ = c.giver_side-giver.result in
    let b : ℕ = c.taker_side-taker.result in
    let old : List (List Bool) = c.args.state.now.alive in
    let new : List (List Bool) = c.hold_joint-loss.new.alive in
    let held = c.hold_joint-loss.ensures in
    let wired = c.known.ensures.wired in
    let in_range = c.requires.joint.in_range in
    let apart : a ≢ b = λ e. wired.apart joint no_joint in_range (sym c.giver_side-giver.ensures.side ∙ e ∙ c.taker_side-taker.ensures.side) in
    let two : (t : ℕ) → AtSide net joint t → (t ≡ a) ⊎ (t ≡ b) = two_of net joint a b c.giver_side-giver.ensures.side c.taker_side-taker.ensures.side in
    let of_a : IsJointOf net a joint = record { in_range = in_range; here = inl (sym c.giver_side-giver.ensures.side) } in
    let of_b : IsJointOf net b joint = record { in_range = in_range; here = inr (sym c.taker_side-taker.ensures.side) } in
    let a_in : inside a ≡ true = at_inside net inside c.requires.closed joint (side_of_place c.args.place) a in_range c.requires.joint.here (inl (sym c.giver_side-giver.ensures.side)) c.requires.inside in
    let b_in : inside b ≡ true = at_inside net inside c.requires.closed joint (side_of_place c.args.place) b in_range c.requires.joint.here (inr (sym c.taker_side-taker.ensures.side)) c.requires.inside in
    let less = less_flags net c.args.place c.args.row joint (length (get_or old joint [])) old new c.hold_joint-loss.result held in
    record {
      ready = ready_alike net c.args.basis.now.boards.now c.args.basis.now.ends.now c.args.basis.now.items.now old new held.alike c.requires.search.ready;
      tables = c.requires.search.tables;
      tended = kept_same net wired names inside joint a b apart two of_a of_b a_in b_in old new c.hold_joint-loss.result.flow less held.elsewhere held.flows c.args.state.now.rows c.args.state.now.queue (held.same c.if-loss.false) c.requires.search.tended;
    }
