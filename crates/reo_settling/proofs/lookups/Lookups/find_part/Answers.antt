use Rattle.std.proofs.Common.{◌∙◌, ◌+◌, ◌≤◌, Bool, cond, sym, subst}
use Rattle.reo_net_base.specs.Net.{Net, net_of}
use Rattle.reo_part_plans.proofs.Plannings.{served}
use Rattle.reo_settling.proofs.Listed.{first_in_tables}
use Rattle.reo_settling.proofs.lookups.Lookups.find_part.Goals as goal

pub returns-then-serves-clause-exact : goal.returns-then-serves-clause-exact
returns-then-serves-clause-exact g c =
    let net : Net = net_of g.P.Primitive.behaviour c.args.part.now.planning.now.circuit.now in
    served c.args.part.now.planning.now.budget net c.args.part.now.planning.now.knots.now c.requires.part.planning.knots c.args.part.now.planning.now.turn c.args.part.now.number c.requires.part.number c.args.standing.now.kept.now c.args.rows.now c.requires.kept (sym c.serves.ensures ∙ c.if-serves.true) c.requires.here

pub list_served-requires-clause-rows : goal.list_served-requires-clause-rows
list_served-requires-clause-rows g c =
    let net : Net = net_of g.P.Primitive.behaviour c.args.part.now.planning.now.circuit.now in
    let planned = served c.args.part.now.planning.now.budget net c.args.part.now.planning.now.knots.now c.requires.part.planning.knots c.args.part.now.planning.now.turn c.args.part.now.number c.requires.part.number c.args.standing.now.kept.now c.args.rows.now c.requires.kept (sym c.serves.ensures ∙ c.if-serves.true) c.requires.here in
    rw c.as_slice.ensures (first_in_tables net c.args.part.now.planning.now.knots.now c.args.part.now.planning.now.turn c.args.part.now.number c.args.rows.now c.requires.rows planned.first)

pub returns-clause-ticks : goal.returns-clause-ticks
returns-clause-ticks g c = λ w is.
    subst (λ (t : Bool). c.find.new.steps ≤ c.args.steps.now + cond t 0 w) (sym c.if-serves.false ∙ c.serves.ensures) (c.find.ensures.ticks w is)
