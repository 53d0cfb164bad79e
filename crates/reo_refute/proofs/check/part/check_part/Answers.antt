use Rattle.std.proofs.Common.{◌≡◌, Bool, true, false, cond, [], subst}
use Rattle.reo_net_base.specs.Net.{Net, net_of}
use Rattle.reo_refute_base.specs.Places.{IsAllowed}
use Rattle.reo_refute_live.specs.OpenBranch.{open_in, IsClosed}
use Rattle.reo_refute.proofs.check.Taking.{Leads, leads_none, leads_more, branch_read, part_stops}
use Rattle.reo_refute.proofs.check.part.check_part.Goals as goal

pub loop-open-init : goal.loop-open-init
loop-open-init g c =
    let net : Net = net_of g.P.Primitive.behaviour c.args.judged.now.circuit.now in
    record {
      open_is = λ _. c.restart.ensures.open;
      closed_is = λ no. absurd {A = IsClosed c.args.judged.now.lists.now c.restart.new.self} (let wrong : true ≡ false = no in cc);
      leads = leads_none net c.args.judged.now.lists.now (IsAllowed net c.args.judged.now.turn c.args.judged.now.given.now c.args.judged.now.number) c.args.lines.now c.requires.short (open_in c.restart.new.self) c.restart.ensures.all;
    }

pub loop-open-preserved : goal.loop-open-preserved
loop-open-preserved g c =
    let net : Net = net_of g.P.Primitive.behaviour c.args.judged.now.circuit.now in
    let leads : Leads net c.args.judged.now.lists.now (IsAllowed net c.args.judged.now.turn c.args.judged.now.given.now c.args.judged.now.number) c.args.lines.now c.loop-open.lines (open_in c.loop-open.live) =
    subst (λ (b : Bool). Leads net c.args.judged.now.lists.now (IsAllowed net c.args.judged.now.turn c.args.judged.now.given.now c.args.judged.now.number) c.args.lines.now c.loop-open.lines (cond b (open_in c.loop-open.live) [])) c.loop-open-test.true c.loop-open.invariant.leads in
    record {
      open_is = c.in-Ok.ensures.open;
      closed_is = c.in-Ok.ensures.closed;
      leads = leads_more net c.args.judged.now.lists.now (IsAllowed net c.args.judged.now.turn c.args.judged.now.given.now c.args.judged.now.number) c.args.lines.now c.loop-open.lines c.step.new.lines (open_in c.loop-open.live) _ leads c.in-Ok.ensures.step;
    }

pub returns-in-Err-clause-part : goal.returns-in-Err-clause-part
returns-in-Err-clause-part g c =
    let net : Net = net_of g.P.Primitive.behaviour c.args.judged.now.circuit.now in
    let leads : Leads net c.args.judged.now.lists.now (IsAllowed net c.args.judged.now.turn c.args.judged.now.given.now c.args.judged.now.number) c.args.lines.now c.loop-open.lines (open_in c.loop-open.live) =
    subst (λ (b : Bool). Leads net c.args.judged.now.lists.now (IsAllowed net c.args.judged.now.turn c.args.judged.now.given.now c.args.judged.now.number) c.args.lines.now c.loop-open.lines (cond b (open_in c.loop-open.live) [])) c.loop-open-test.true c.loop-open.invariant.leads in
    part_stops net c.args.judged.now.lists.now (IsAllowed net c.args.judged.now.turn c.args.judged.now.given.now c.args.judged.now.number) c.args.lines.now c.loop-open.lines c.step.new.lines c.step.new.lines c.loop-open.live c.step.new.live c.in-Err.stop leads c.in-Err.ensures.step

pub returns-clause-part : goal.returns-clause-part
returns-clause-part g c =
    let net : Net = net_of g.P.Primitive.behaviour c.args.judged.now.circuit.now in
    branch_read net c.args.judged.now.turn c.args.judged.now.given.now c.args.judged.now.lists.now c.args.judged.now.number c.args.lines.now c.loop-open.lines
    (subst (λ (b : Bool). Leads net c.args.judged.now.lists.now (IsAllowed net c.args.judged.now.turn c.args.judged.now.given.now c.args.judged.now.number) c.args.lines.now c.loop-open.lines (cond b (open_in c.loop-open.live) [])) c.loop-open-test.false c.loop-open.invariant.leads)
