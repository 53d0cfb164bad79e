use Rattle.std.proofs.Common.{◌≡◌, subst}
use Rattle.reo_net_base.specs.declared.joint.Joint.{Joint}
use Rattle.reo_net_base.specs.declared.mark.Mark.TheVariants.{F}
use Rattle.reo_net_base.specs.Ends.{IsGiver}
use Rattle.reo_net_base.specs.Net.{Net, net_of, mark_at}
use Rattle.reo_joint_values.specs.Standing.{no_joint}
use Rattle.reo_joint_values.proofs.StandLemmas.{giver_gives}
use Rattle.reo_round.proofs.giving.put_made.Goals as goal

pub plain_at-requires-clause-giver : goal.plain_at-requires-clause-giver
plain_at-requires-clause-giver g c =
    let net : Net = net_of g.P.Primitive.behaviour c.args.circuit.now in
    subst (λ (j : Joint). IsGiver net j.giver) (c.joint.ensures no_joint) (giver_gives net c.known.ensures.wired c.args.joint c.requires.joint)

pub plain_at-requires-clause-flows : goal.plain_at-requires-clause-flows
plain_at-requires-clause-flows g c =
    let net : Net = net_of g.P.Primitive.behaviour c.args.circuit.now in
    subst (λ (j : Joint). mark_at net c.args.rows.now j.giver ≡ F) (c.joint.ensures no_joint) (c.requires.flows no_joint)

pub given_at-requires-clause-giver : goal.given_at-requires-clause-giver
given_at-requires-clause-giver g c =
    let net : Net = net_of g.P.Primitive.behaviour c.args.circuit.now in
    subst (λ (j : Joint). IsGiver net j.giver) (c.joint.ensures no_joint) (giver_gives net c.known.ensures.wired c.args.joint c.requires.joint)

pub given_at-requires-clause-flows : goal.given_at-requires-clause-flows
given_at-requires-clause-flows g c =
    let net : Net = net_of g.P.Primitive.behaviour c.args.circuit.now in
    subst (λ (j : Joint). mark_at net c.args.rows.now j.giver ≡ F) (c.joint.ensures no_joint) (c.requires.flows no_joint)
