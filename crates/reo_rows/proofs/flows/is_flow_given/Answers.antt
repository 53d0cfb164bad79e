use Rattle.std.proofs.Common.{option_copied, arith, subst, sym}
use Rattle.reo_net_base.specs.Net.{Net, net_of}
use Rattle.reo_joint_values.specs.Works.{IsGivenAs}
use Rattle.reo_joint_values.specs.declared.value.JointValue.{JointValue}
use Rattle.reo_rows.specs.Flowing.{names_in}
use Rattle.reo_rows.proofs.Codes.{flag_in}
use Rattle.reo_rows.proofs.Giving.{given_placed}
use Rattle.reo_rows.proofs.flows.is_flow_given.Goals as goal

pub returns : goal.returns
returns g c = (
  λ h. absurd cc,
  λ given.
      let net : Net = net_of g.P.Primitive.behaviour c.args.flowing.now.basis.now.circuit.now in
      let p = given_placed net (names_in c.args.flowing.now) c.args.flowing.now.alive.now c.args.flowing.now.side c.args.flowing.now.row c.args.joint (option_copied c.args.taken) c.requires.gives given in
      let place = flag_in c.args.flowing.now.alive.now c.args.joint p.code p.set in
      absurd (c.loop-code.invariant p.code p.flows (omega (arith, place)) p.set
      (subst (λ (v : JointValue). IsGivenAs net (names_in c.args.flowing.now) c.args.flowing.now.row c.args.joint (option_copied c.args.taken) v) (sym p.is) given.given)),
)
