use Rattle.std.proofs.Common.{◌≡◌, ◌<◌, ℕ, List, true, false, Bool, cond, [], sym, subst}
use Rattle.reo_net_base.specs.Net.{Net, net_of}
use Rattle.reo_refute_base.specs.Places.{IsAllowed}
use Rattle.reo_refute_base.specs.measure.Owed.{owed}
use Rattle.reo_refute_live.specs.OpenBranch.{open_in, IsClosed}
use Rattle.reo_refute.proofs.proving.Writing.{Leads, leads_none, leads_more, branch_made}
use Rattle.reo_refute.proofs.proving.branch.put_whole.Goals as goal

pub loop-open-init : goal.loop-open-init
loop-open-init g c =
    let net : Net = net_of g.P.Primitive.behaviour c.args.judged.now.circuit.now in
    record {
      open_is = λ _. c.restart.ensures.open;
      closed_is = λ no. absurd {A = IsClosed c.args.judged.now.lists.now c.restart.new.self} (let wrong : true ≡ false = no in cc);
      leads = subst (λ (w : List ℕ). Leads net c.args.judged.now.lists.now (IsAllowed net c.args.judged.now.turn c.args.judged.now.given.now c.args.judged.now.number) [] w (open_in c.restart.new.self)) (sym c.clear.ensures) (leads_none net c.args.judged.now.lists.now (IsAllowed net c.args.judged.now.turn c.args.judged.now.given.now c.args.judged.now.number) [] (open_in c.restart.new.self) c.restart.ensures.all);
    }

pub loop-open-preserved : goal.loop-open-preserved
loop-open-preserved g c =
    let net : Net = net_of g.P.Primitive.behaviour c.args.judged.now.circuit.now in
    let leads : Leads net c.args.judged.now.lists.now (IsAllowed net c.args.judged.now.turn c.args.judged.now.given.now c.args.judged.now.number) [] c.loop-open.scratch.whole (open_in c.loop-open.scratch.live) =
    subst (λ (b : Bool). Leads net c.args.judged.now.lists.now (IsAllowed net c.args.judged.now.turn c.args.judged.now.given.now c.args.judged.now.number) [] c.loop-open.scratch.whole (cond b (open_in c.loop-open.scratch.live) [])) c.loop-open-test.true c.loop-open.invariant.leads in
    record {
      open_is = c.in_ok-open.ensures.open;
      closed_is = c.in_ok-open.ensures.closed;
      leads = leads_more net c.args.judged.now.lists.now (IsAllowed net c.args.judged.now.turn c.args.judged.now.given.now c.args.judged.now.number) [] c.loop-open.scratch.whole c.put_next.new.scratch.whole (open_in c.loop-open.scratch.live) _ leads c.in_ok-open.ensures.made;
    }

pub loop-open-smaller : goal.loop-open-smaller
loop-open-smaller g c =
    let net : Net = net_of g.P.Primitive.behaviour c.args.judged.now.circuit.now in
    subst (λ (b : Bool). owed net c.args.judged.now.lists.now (cond c.in_ok-open.open (open_in c.put_next.new.scratch.live) []) < owed net c.args.judged.now.lists.now (cond b (open_in c.loop-open.scratch.live) [])) (sym c.loop-open-test.true) c.in_ok-open.ensures.made.leads.less

pub returns-clause-made : goal.returns-clause-made
returns-clause-made g c =
    let net : Net = net_of g.P.Primitive.behaviour c.args.judged.now.circuit.now in
    branch_made net c.args.judged.now.turn c.args.judged.now.given.now c.args.judged.now.lists.now c.args.judged.now.number [] c.loop-open.scratch.whole
    (subst (λ (b : Bool). Leads net c.args.judged.now.lists.now (IsAllowed net c.args.judged.now.turn c.args.judged.now.given.now c.args.judged.now.number) [] c.loop-open.scratch.whole (cond b (open_in c.loop-open.scratch.live) [])) c.loop-open-test.false c.loop-open.invariant.leads)
