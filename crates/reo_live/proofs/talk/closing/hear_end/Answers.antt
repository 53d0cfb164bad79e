use Rattle.std.proofs.Common.{subst}
use Rattle.reo_net_base.specs.Net.{Wiring, net_of}
use Rattle.reo_rounds.specs.Order.{HasOrder}
use Rattle.reo_rounds.specs.Rules.{rules_of}
use Rattle.reo_live.proofs.talk.FedLemmas.{passed}
use Rattle.reo_live.proofs.talk.CloseLemmas.{some_line, none_finished, passed_finished, more_finished}
use Rattle.reo_live.proofs.talk.closing.hear_end.Goals as goal

pub returns-then-is_empty-clause-finished : goal.returns-then-is_empty-clause-finished
returns-then-is_empty-clause-finished g c =
    let r = rules_of g.P.Primitive.behaviour g.P.Primitive.settled g.P.Ported.port_state g.P.Ported.placed g.P.Ported.withdrawn in
    none_finished r c.args.ports.now.list c.args.budget c.args.engine.now c.args.lines c.args.line.now (g.S.Sink.told c.args.out.now) (g.S.Sink.told c.close.new.out)
    c.rounds.result c.close.result c.rounds.ensures (c.is_empty.ensures.0 c.if-is_empty.true) c.close.ensures.closed

pub returns-in_err-going-clause-finished : goal.returns-in_err-going-clause-finished
returns-in_err-going-clause-finished g c =
    let r = rules_of g.P.Primitive.behaviour g.P.Primitive.settled g.P.Ported.port_state g.P.Ported.placed g.P.Ported.withdrawn in
    let order = subst (λ (w : Wiring g.row.P.Denot). HasOrder (net_of g.P.Primitive.behaviour w)) c.circuit.ensures c.known_order.ensures in
    let is = passed c.from_residual.result c.in_err-going.field-0.0 c.from_residual.ensures in
    passed_finished r c.args.ports.now.list c.args.budget c.args.engine.now c.args.lines c.args.line.now (some_line c.args.line.now c.is_empty.result c.if-is_empty.false c.is_empty.ensures.1) (g.S.Sink.told c.args.out.now) (g.S.Sink.told c.hear_last.new.out)
    c.hear_last.new.engine _ c.ending_exists.ensures order c.in_err-going.field-0.0 c.in_err-going.ensures.judged c.from_residual.result is

pub returns-in-More-clause-finished : goal.returns-in-More-clause-finished
returns-in-More-clause-finished g c =
    let r = rules_of g.P.Primitive.behaviour g.P.Primitive.settled g.P.Ported.port_state g.P.Ported.placed g.P.Ported.withdrawn in
    more_finished r c.args.ports.now.list c.args.budget c.args.engine.now c.args.lines c.args.line.now (some_line c.args.line.now c.is_empty.result c.if-is_empty.false c.is_empty.ensures.1) (g.S.Sink.told c.args.out.now) (g.S.Sink.told c.hear_last.new.out)
    (g.S.Sink.told c.close-in-More.new.out) c.hear_last.new.engine c.rounds-in-More.result c.rounds-in-More.ensures c.close-in-More.result c.in_ok-going.going c.in-More.is c.in_ok-going.ensures.judged c.close-in-More.ensures.closed
