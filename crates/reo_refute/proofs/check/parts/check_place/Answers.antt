use Rattle.std.proofs.Common.{◌≡◌, ◌∙◌, ◌+◌, true, false, sym, subst}
use Rattle.reo_net_base.specs.Net.{Net, net_of}
use Rattle.reo_refute.specs.declared.check.lines.Lines.{Lines}
use Rattle.reo_refute.specs.check.Judging.{ArePassed}
use Rattle.reo_refute.proofs.check.Taking.{passed_dead}
use Rattle.reo_refute.proofs.check.parts.check_place.Goals as goal
use Rattle.reo_refute.proofs.check.parts.check_place.Goals.{then-branch+in_ok-check_live, else-branch}

pub returns-clause-taken : goal.returns-clause-taken
returns-clause-taken g c =
    let net : Net = net_of g.P.Primitive.behaviour c.args.round.now.circuit.now in
    elim c.if-branch.branch [
      | then-branch+in_ok-check_live w ↦
          subst (λ (l : Lines). ArePassed net c.args.round.now.turn c.args.round.now.given.now c.args.round.now.lists.now c.args.number (c.args.number + 1) c.args.lines.now l) (sym w.lines-is) w.in_ok-check_live.ensures.taken
      | else-branch w ↦
          subst (λ (l : Lines). ArePassed net c.args.round.now.turn c.args.round.now.given.now c.args.round.now.lists.now c.args.number (c.args.number + 1) c.args.lines.now l) (sym w.lines-is)
          (passed_dead net c.args.round.now.turn c.args.round.now.given.now c.args.round.now.lists.now c.args.number c.args.lines.now c.requires.short
          (λ live. let wrong : false ≡ true = sym w.if-branch.false ∙ c.in_ok-come_to.ensures.live.1 live in cc))
    ]
