use Rattle.std.proofs.Common.{◌≡◌, ◌∙◌, ℕ, ◌+◌, ◌-◌, ◌<◌, ◌≤◌, [], length, get_or, refl, subst, sym, arith}
use Rattle.std.proofs.lemmas.List.{get_or_default}
use Rattle.reo_net_base.specs.Net.{Net, net_of}
use Rattle.reo_net_laws.specs.Knots.{in_knot, knot_count}
use Rattle.reo_flows.specs.flowing.Flowing.{AreFlowingOf}
use Rattle.reo_round.proofs.Filled.{below_all, below_more, below_none, part_blank, parts_over}
use Rattle.reo_round.proofs.filling.fill.Goals as goal

pub loop-part-init : goal.loop-part-init
loop-part-init g c =
    let net : Net = net_of g.P.Primitive.behaviour c.args.circuit.now in
    let next : ℕ = c.next_set-part.result in
    let in_range = c.next_set-part.ensures.in_range in
    record {
      in_range = in_range;
      count = c.requires.blank.count_is;
      far = λ others is.
          parts_over net c.known.ensures.wired c.args.rows.now others is c.args.ends.now c.requires.ends c.args.knots.now c.requires.knots c.args.lists.now c.requires.lists c.args.moving.now c.requires.moving
          c.args.items.now c.requires.blank.count_is c.args.flowing.now next 0 next (omega arith) (omega (arith, in_range, c.requires.moving.one_each)) c.next_set-part.ensures.none_before
          (below_none net c.args.knots.now others c.args.items.now c.args.flowing.now c.requires.blank c.requires.held);
    }

pub fill_part-requires-clause-part : goal.fill_part-requires-clause-part
fill_part-requires-clause-part g c = omega (arith, c.requires.moving.one_each)

pub fill_part-requires-clause-joints : goal.fill_part-requires-clause-joints
fill_part-requires-clause-joints g c =
    let net : Net = net_of g.P.Primitive.behaviour c.args.circuit.now in
    let part = c.loop-part.part in
    let lt : part < knot_count c.args.knots.now = omega (arith, c.requires.moving.one_each) in
    let p_in : part < length c.args.lists.now = omega (arith, lt, c.requires.lists.one_each) in
    let here : c.as_slice-joints.result.now ≡ get_or c.args.lists.now part [] = c.as_slice-joints.ensures ∙ c.at.ensures ∙ get_or_default c.args.lists.now part c.at.result.now [] p_in in
    subst (AreFlowingOf net (in_knot c.args.knots.now.numbers part) c.args.rows.now) (sym here) (c.requires.lists.each part lt refl)

pub fill_part-requires-clause-items : goal.fill_part-requires-clause-items
fill_part-requires-clause-items g c = c.loop-part.invariant.count

pub fill_part-requires-clause-blank : goal.fill_part-requires-clause-blank
fill_part-requires-clause-blank g c =
    let one = c.requires.coloured in
    part_blank (net_of g.P.Primitive.behaviour c.args.circuit.now) c.args.knots.now c.loop-part.part c.loop-part.items (c.loop-part.invariant.far one.items one.colouring).later

pub fill_part-requires-clause-held : goal.fill_part-requires-clause-held
fill_part-requires-clause-held g c =
    let one = c.requires.coloured in
    (c.loop-part.invariant.far one.items one.colouring).held

pub loop-part-preserved : goal.loop-part-preserved
loop-part-preserved g c =
    let net : Net = net_of g.P.Primitive.behaviour c.args.circuit.now in
    let one = c.requires.coloured in
    let next : ℕ = c.next_set-part-in-loop-part.result in
    let in_range = c.next_set-part-in-loop-part.ensures.in_range in
    let on : c.loop-part.part + 1 ≤ next = omega (arith, c.next_set-part-in-loop-part.ensures.from_on) in
    let count = (c.in_ok-fill_part.ensures one.items one.colouring).count ∙ c.loop-part.invariant.count in
    record {
      in_range = in_range;
      count = count;
      far = λ others is.
          parts_over net c.known.ensures.wired c.args.rows.now others is c.args.ends.now c.requires.ends c.args.knots.now c.requires.knots c.args.lists.now c.requires.lists c.args.moving.now c.requires.moving
          c.fill_part.new.items count c.fill_part.new.flowing (next - (c.loop-part.part + 1)) (c.loop-part.part + 1) next (omega (arith, on)) (omega (arith, in_range, c.requires.moving.one_each))
          c.next_set-part-in-loop-part.ensures.none_before
          (below_more net c.known.ensures.wired c.args.knots.now c.requires.knots c.loop-part.part others c.loop-part.items c.fill_part.new.items c.loop-part.flowing c.fill_part.new.flowing
          (c.loop-part.invariant.far others is) (c.in_ok-fill_part.ensures others is));
    }

pub returns : goal.returns
returns g c = λ others is.
    let net : Net = net_of g.P.Primitive.behaviour c.args.circuit.now in
    below_all net c.known.ensures.wired c.args.knots.now c.requires.knots others c.loop-part.items c.loop-part.flowing c.loop-part.part
    (omega (arith, c.loop-part.invariant.in_range, c.requires.moving.one_each)) c.loop-part.invariant.count is.one_each (c.loop-part.invariant.far others is)
