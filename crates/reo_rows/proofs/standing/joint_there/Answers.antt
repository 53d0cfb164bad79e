use Rattle.std.proofs.Common.{ℕ, subst, sym, arith}
use Rattle.std.proofs.lemmas.List.{length-map}
use Rattle.reo_net_base.specs.Net.{Net, net_of, no_side}
use Rattle.reo_rows.specs.Stands.{IsAtEnd}
use Rattle.reo_rows.proofs.Ending.{joint_there}
use Rattle.reo_rows.proofs.standing.joint_there.Goals as goal

pub returns : goal.returns
returns g c =
    let net : Net = net_of g.P.Primitive.behaviour c.args.circuit.now in
    subst (λ (j : ℕ). IsAtEnd net c.args.side c.args.end j) (sym c.joint_at.ensures)
    (joint_there net c.known.ensures.wired c.args.ends.now c.requires.ends c.args.side c.owner-owner.result.primitive c.owner-owner.result.side (omega (arith, length-map c.args.circuit.now.primitives g.P.Primitive.behaviour, c.owner-owner.ensures.primitive)) c.owner-owner.ensures.place
    (c.owner-owner.ensures.owner no_side) c.args.end c.requires.end)
