use Rattle.std.proofs.Common.{rules}
use Rattle.reo_net_base.specs.declared.joint.Joint.{Joint}
use Rattle.reo_net_base.specs.Net.{end_of, net_of}
use Rattle.reo_trace.proofs.Still.{not_idle, still_more}
use Rattle.reo_trace.proofs.entries.is_idle.Goals as goal

pub returns-then-not-is_still : goal.returns-then-not-is_still
returns-then-not-is_still g c =
    let none : Joint = record { giver = end_of 0 0; taker = end_of 0 0 } in
    not_idle (net_of g.P.Primitive.behaviour c.args.circuit.now) c.args.rows.now c.loop-index.index none c.is_still.result (search rules) (c.is_still.ensures none) c.if-not-is_still.true

pub loop-index-preserved : goal.loop-index-preserved
loop-index-preserved g c =
    let none : Joint = record { giver = end_of 0 0; taker = end_of 0 0 } in
    still_more (net_of g.P.Primitive.behaviour c.args.circuit.now) c.args.rows.now c.loop-index.index none c.is_still.result (search rules) (c.is_still.ensures none) c.if-not-is_still.false c.loop-index.invariant
