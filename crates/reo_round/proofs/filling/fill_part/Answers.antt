use Rattle.std.proofs.Common.{◌∙◌, arith}
use Rattle.reo_net_base.specs.Net.{net_of}
use Rattle.reo_net_laws.specs.Knots.{in_knot}
use Rattle.reo_round.proofs.Putting.{far_all, far_more, far_none, those_flow, those_in}
use Rattle.reo_round.proofs.filling.fill_part.Goals as goal

pub loop-index-init : goal.loop-index-init
loop-index-init g c = λ others is.
    far_none (net_of g.P.Primitive.behaviour c.args.circuit.now) c.known.ensures.wired (in_knot c.args.knots.now.numbers c.args.part) (c.requires.knots.are_knots c.args.part c.requires.part).closed
    c.args.rows.now c.args.joints.now c.requires.joints others c.args.items.now c.args.flowing.now c.requires.held

pub put_item-requires-clause-joint : goal.put_item-requires-clause-joint
put_item-requires-clause-joint g c =
    those_in (net_of g.P.Primitive.behaviour c.args.circuit.now) (in_knot c.args.knots.now.numbers c.args.part) c.args.rows.now c.args.joints.now c.requires.joints c.loop-index.index (omega arith)

pub put_item-requires-clause-flows : goal.put_item-requires-clause-flows
put_item-requires-clause-flows g c =
    those_flow (net_of g.P.Primitive.behaviour c.args.circuit.now) (in_knot c.args.knots.now.numbers c.args.part) c.args.rows.now c.args.joints.now c.requires.joints c.loop-index.index (omega arith)

pub put_item-requires-clause-items : goal.put_item-requires-clause-items
put_item-requires-clause-items g c =
    let one = c.requires.coloured in
    (c.loop-index.invariant one.items one.colouring).far.count ∙ c.requires.items

pub loop-index-preserved : goal.loop-index-preserved
loop-index-preserved g c = λ others is.
    far_more (net_of g.P.Primitive.behaviour c.args.circuit.now) c.known.ensures.wired c.args.rows.now others is c.args.ends.now c.requires.ends (in_knot c.args.knots.now.numbers c.args.part) c.args.joints.now
    c.args.items.now c.requires.items c.requires.blank c.loop-index.index (omega arith) c.loop-index.items c.put_item.new.items c.loop-index.flowing c.put_item.new.flowing
    (c.loop-index.invariant others is) c.in_ok-put_item.ensures

pub returns : goal.returns
returns g c = λ others is.
    far_all (net_of g.P.Primitive.behaviour c.args.circuit.now) c.known.ensures.wired c.args.rows.now others is c.args.ends.now c.requires.ends (in_knot c.args.knots.now.numbers c.args.part) c.args.joints.now
    c.args.items.now c.requires.items c.requires.blank c.loop-index.index (omega arith) c.loop-index.items c.loop-index.flowing (c.loop-index.invariant others is)
