use Rattle.std.proofs.Common.{◌∙◌, false, refl, sym, subst, arith}
use Rattle.reo_net_base.specs.Net.{Wiring, net_of}
use Rattle.reo_rounds.specs.Order.{HasOrder}
use Rattle.reo_rounds.specs.Rules.{rules_of}
use Rattle.reo_rounds.specs.Lasting.{KeepsShape}
use Rattle.reo_live.specs.base.Held.{Held}
use Rattle.reo_live.specs.declared.talk.fault.Going.TheVariants as goings
use Rattle.reo_live.specs.declared.talk.fault.LiveFault.TheVariants as faults
use Rattle.reo_live.specs.talk.Fed.{FedAll}
use Rattle.reo_live.specs.talk.Talks.{live_of}
use Rattle.std.specs.Prelude.{Ok}
use Rattle.reo_live.proofs.talk.HearLemmas.{so_far_none}
use Rattle.reo_live.proofs.talk.FedLemmas.{on_far, out_fed, out_passed, more_fed, ended_fed, fault_fed, passed, cut_shorter, no_fault}
use Rattle.reo_live.proofs.talk.hearing.hear.Goals as goal

pub cutting-init : goal.cutting-init
cutting-init g c =
    let r = rules_of g.P.Primitive.behaviour g.P.Primitive.settled g.P.Ported.port_state g.P.Ported.placed g.P.Ported.withdrawn in
    let s = live_of c.args.engine.now c.args.lines.now false c.args.line.now in
    record {
      so_far = so_far_none r c.args.ports.now.list c.args.budget s c.args.piece.now (g.S.Sink.told c.args.out.now);
      few = c.requires.few;
      room = omega arith;
      same = refl;
    }

pub cutting-preserved : goal.cutting-preserved
cutting-preserved g c =
    let r = rules_of g.P.Primitive.behaviour g.P.Primitive.settled g.P.Ported.port_state g.P.Ported.placed g.P.Ported.withdrawn in
    let s = live_of c.args.engine.now c.args.lines.now false c.args.line.now in
    let u = live_of c.cutting.engine c.cutting.lines false c.cutting.line in
    record {
      so_far = on_far r c.args.budget c.args.ports.now.list s c.args.piece.now (g.S.Sink.told c.args.out.now) (g.S.Sink.told c.cutting.out) (g.S.Sink.told c.hear_line.new.out)
          u c.cutting.rest.now c.in-Some.cut.line.now c.in-Some.cut.rest.now c.cutting.invariant.so_far c.in-Some.ensures refl
          c.hear_line.new.engine c.hear_line.new.lines c.hear_line.new.line c.in_ok-going.going c.in-More.is c.in_ok-going.ensures.judged c.in_ok-going.ensures.line;
      few = c.in_ok-going.ensures.rounds;
      room = omega (arith, cut_shorter c.cutting.rest.now c.in-Some.cut.line.now c.in-Some.cut.rest.now c.in-Some.ensures, c.in_ok-going.ensures.lines, c.cutting.invariant.room);
      same = no_fault (g.S.Sink.faults c.cutting.out) (g.S.Sink.faults c.hear_line.new.out) c.in_ok-going.going c.in_ok-going.ensures.later c.in_ok-going.ensures.risen ∙ c.cutting.invariant.same;
    }

pub returns-in_err-going-clause-fed : goal.returns-in_err-going-clause-fed
returns-in_err-going-clause-fed g c =
    let r = rules_of g.P.Primitive.behaviour g.P.Primitive.settled g.P.Ported.port_state g.P.Ported.placed g.P.Ported.withdrawn in
    let shape : KeepsShape r = record { lawful = g.met.P.Primitive.lawful; settled = g.met.P.Primitive.settled_shape; placed = g.met.P.Ported.placed_shape; withdrawn = g.met.P.Ported.withdrawn_shape } in
    let s = live_of c.args.engine.now c.args.lines.now false c.args.line.now in
    let u = live_of c.cutting.engine c.cutting.lines false c.cutting.line in
    let order = subst (λ (w : Wiring g.row.P.Denot). HasOrder (net_of g.P.Primitive.behaviour w)) c.circuit.ensures c.known_order.ensures in
    fault_fed r c.args.budget c.args.ports.now.list s c.args.piece.now (g.S.Sink.told c.args.out.now) (g.S.Sink.told c.cutting.out) (g.S.Sink.told c.hear_line.new.out)
    u c.cutting.rest.now c.in-Some.cut.line.now c.in-Some.cut.rest.now c.cutting.invariant.so_far c.in-Some.ensures refl shape c.hearing_exists.ensures order
    c.hear_line.new.engine c.hear_line.new.lines c.hear_line.new.line c.in_err-going.field-0.0 c.in_err-going.ensures.judged c.in_err-going.ensures.line
    c.from_residual.result (passed c.from_residual.result c.in_err-going.field-0.0 c.from_residual.ensures)

pub returns-in-Ended-clause-fed : goal.returns-in-Ended-clause-fed
returns-in-Ended-clause-fed g c =
    let r = rules_of g.P.Primitive.behaviour g.P.Primitive.settled g.P.Ported.port_state g.P.Ported.placed g.P.Ported.withdrawn in
    let shape : KeepsShape r = record { lawful = g.met.P.Primitive.lawful; settled = g.met.P.Primitive.settled_shape; placed = g.met.P.Ported.placed_shape; withdrawn = g.met.P.Ported.withdrawn_shape } in
    let s = live_of c.args.engine.now c.args.lines.now false c.args.line.now in
    let u = live_of c.cutting.engine c.cutting.lines false c.cutting.line in
    let order = subst (λ (w : Wiring g.row.P.Denot). HasOrder (net_of g.P.Primitive.behaviour w)) c.circuit.ensures c.known_order.ensures in
    ended_fed r c.args.budget c.args.ports.now.list s c.args.piece.now (g.S.Sink.told c.args.out.now) (g.S.Sink.told c.cutting.out) (g.S.Sink.told c.hear_line.new.out)
    u c.cutting.rest.now c.in-Some.cut.line.now c.in-Some.cut.rest.now c.cutting.invariant.so_far c.in-Some.ensures refl shape c.hearing_exists.ensures order
    c.hear_line.new.engine c.hear_line.new.lines c.hear_line.new.line c.in_ok-going.going c.in-Ended.is c.in_ok-going.ensures.judged c.in_ok-going.ensures.line

pub returns-in_err-join-clause-fed : goal.returns-in_err-join-clause-fed
returns-in_err-join-clause-fed g c =
    let r = rules_of g.P.Primitive.behaviour g.P.Primitive.settled g.P.Ported.port_state g.P.Ported.placed g.P.Ported.withdrawn in
    let s = live_of c.args.engine.now c.args.lines.now false c.args.line.now in
    let u = live_of c.cutting.engine c.cutting.lines false c.cutting.line in
    let order = subst (λ (w : Wiring g.row.P.Denot). HasOrder (net_of g.P.Primitive.behaviour w)) c.circuit-2.ensures c.known_order-2.ensures in
    let is = passed c.from_residual-in_err-join.result faults.NoMemory c.from_residual-in_err-join.ensures in
    let lines = out_fed r c.args.budget c.args.ports.now.list s c.args.piece.now (g.S.Sink.told c.args.out.now) (g.S.Sink.told c.cutting.out) u c.cutting.rest.now c.hearing_exists.ensures order c.cutting.invariant.so_far in
    out_passed r c.args.budget c.args.ports.now.list s c.args.piece.now (g.S.Sink.told c.args.out.now) (g.S.Sink.told c.cutting.out) c.cutting.engine c.cutting.lines c.join.new.self
    c.from_residual-in_err-join.result is lines

pub returns-clause-fed : goal.returns-clause-fed
returns-clause-fed g c =
    let r = rules_of g.P.Primitive.behaviour g.P.Primitive.settled g.P.Ported.port_state g.P.Ported.placed g.P.Ported.withdrawn in
    let ports = c.args.ports.now.list in
    let s = live_of c.args.engine.now c.args.lines.now false c.args.line.now in
    let before = g.S.Sink.told c.args.out.now in
    let now = g.S.Sink.told c.cutting.out in
    let e = c.cutting.engine in
    let n = c.cutting.lines in
    let fed = more_fed r c.args.budget ports s c.args.piece.now before now e n c.cutting.line c.cutting.rest.now c.cutting.invariant.so_far c.in_default.ensures in
    subst (λ (h : Held). FedAll ports before now r c.args.budget s c.args.piece.now (live_of e n false h) (Ok goings.More)) (sym c.in_ok-join.ensures) fed
