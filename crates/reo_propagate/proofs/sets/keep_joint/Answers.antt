use Rattle.std.proofs.Common.{◌≡◌, ◌∙◌, ◌<◌, ℕ, List, [], get_or, length, ap, sym, arith}
use Rattle.std.proofs.lemmas.Bool.{eq-eqb}
use Rattle.std.proofs.lemmas.List.{get_or_default}
use Rattle.reo_net_base.specs.Net.{Net, net_of}
use Rattle.reo_joint_values.specs.declared.value.JointValue.{JointValue}
use Rattle.reo_joint_values.specs.Values.{giver_side}
use Rattle.reo_propagate.specs.ListedSets.{in_set}
use Rattle.reo_propagate.proofs.sets.keep_joint.Goals as goal

pub keep_values-requires-clause-flags : goal.keep_values-requires-clause-flags
keep_values-requires-clause-flags g c =
    let net : Net = net_of g.P.Primitive.behaviour c.args.circuit.now in
    let joint : ℕ = c.args.joint in
    let there : joint < length c.args.sets.now.values = omega (arith, c.requires.joint, c.requires.one_each) in
    let is : c.at_mut.result.now ≡ get_or c.args.sets.now.values joint [] = c.at_mut.ensures.value ∙ get_or_default c.args.sets.now.values joint c.at_mut.result.now [] there in
    let gives : giver_side net joint ≡ c.args.side = sym c.giver_side.ensures.side ∙ c.if-giver_side-side.false in
    λ v h. c.requires.flags joint v (eq-eqb (giver_side net joint) c.args.side gives) (ap (λ (l : List JointValue). in_set l v) (sym is) ∙ h)
