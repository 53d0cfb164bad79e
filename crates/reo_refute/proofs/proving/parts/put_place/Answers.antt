use Rattle.std.proofs.Common.{◌≡◌, ◌∙◌, ◌+◌, ℕ, List, true, false, sym, subst}
use Rattle.reo_net_base.specs.Net.{Net, net_of}
use Rattle.reo_refute.specs.proving.Making.{ArePartsMade}
use Rattle.reo_refute.proofs.proving.Writing.{dead_made}
use Rattle.reo_refute.proofs.proving.parts.put_place.Goals as goal
use Rattle.reo_refute.proofs.proving.parts.put_place.Goals.{then-branch+in_ok-put_live, else-branch}

pub returns-clause-made : goal.returns-clause-made
returns-clause-made g c =
    let net : Net = net_of g.P.Primitive.behaviour c.args.round.now.circuit.now in
    let Made : List ℕ → Type 0 = λ out. ArePartsMade net c.args.round.now.turn c.args.round.now.given.now c.args.round.now.lists.now c.args.number (c.args.number + 1) c.args.out.now out in
    elim c.if-branch.branch [
      | then-branch+in_ok-put_live w ↦ subst Made (sym w.out-is) w.in_ok-put_live.ensures.made
      | else-branch w ↦
          subst Made (sym w.out-is)
          (dead_made net c.args.round.now.turn c.args.round.now.given.now c.args.round.now.lists.now c.args.number
          (λ live. let wrong : false ≡ true = sym w.if-branch.false ∙ c.in_ok-come_to.ensures.live.1 live in cc) c.args.out.now)
    ]
