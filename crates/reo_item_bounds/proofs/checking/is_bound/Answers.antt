use Rattle.std.proofs.Common.{◌≡◌, ◌<◌, ◌≤◌, arith, subst, sym, ap, get_or}
use Rattle.reo_net_base.specs.declared.form.Form.{Form}
use Rattle.reo_net_base.specs.declared.joint.End.{End}
use Rattle.reo_net_base.specs.Forms.{HasForm, rows_by}
use Rattle.reo_item_bounds.specs.Shares.{AreShared}
use Rattle.reo_net_base.specs.declared.joint.Joint.{Joint}
use Rattle.reo_net_base.specs.Net.{Net, net_of, behaviour_at}
use Rattle.reo_net_base.specs.Wired.{IsEnd}
use Rattle.reo_joint_values.specs.Standing.{no_joint, giver_of}
use Rattle.reo_item_bounds.proofs.Bounded.{bound_here}
use Rattle.reo_item_bounds.proofs.checking.is_bound.Goals as goal

pub shared-requires-clause-giver : goal.shared-requires-clause-giver
shared-requires-clause-giver g c =
    let net : Net = net_of g.P.Primitive.behaviour c.args.circuit.now in
    subst (λ (j : Joint). IsEnd net.primitives j.giver) (c.joint.ensures no_joint) (c.known.ensures.wired.givers c.args.joint no_joint c.requires.joint)

pub returns-then-sum-bounds : goal.returns-then-sum-bounds
returns-then-sum-bounds g c = λ small.
    let net : Net = net_of g.P.Primitive.behaviour c.args.circuit.now in
    let few : get_or c.args.bounds.now c.args.joint 0 < 257 = grind (arith, small) in
    let le : c.in-Some.sum ≤ get_or c.args.bounds.now c.args.joint 0 = grind (arith, c.if-sum-bounds.true) in
    let giver : c.joint.result.giver ≡ giver_of net c.args.joint = ap (λ (j : Joint). j.giver) (sym (c.joint.ensures no_joint)) in
    let found = c.in-Some.ensures (omega (arith, few, le)) in
    let here = subst (λ (e : End). (form : Form) × HasForm form (behaviour_at net.primitives e.primitive) ((behaviour_at net.primitives e.primitive).side_of e.end)
    × AreShared (behaviour_at net.primitives e.primitive) e form c.args.ends.now c.args.bounds.now (rows_by form) c.in-Some.sum) giver found in
    bound_here net c.known.ensures.wired c.args.ends.now c.requires.ends c.args.bounds.now c.args.joint c.requires.joint here.0 here.1 c.in-Some.sum le (omega (arith, few)) here.2
