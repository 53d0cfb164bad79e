use Rattle.std.proofs.Common.{◌∙◌, ap, sym}
use Rattle.reo_net_base.specs.Net.{Net, net_of}
use Rattle.reo_rounds.specs.Plans.{jammed_sides}
use Rattle.reo_engine.proofs.planning.shows_its_own.Goals as goal

pub returns-then-plan-jammed_sides : goal.returns-then-plan-jammed_sides
returns-then-plan-jammed_sides g c =
    let net : Net = net_of g.P.Primitive.behaviour c.args.circuit.now in (
      λ test. absurd cc,
      λ shows. absurd (c.if-plan-jammed_sides.true (shows.jammed ∙ ap (jammed_sides net) (sym c.as_slice-rows.ensures) ∙ sym c.jammed_sides.ensures)),
    )
