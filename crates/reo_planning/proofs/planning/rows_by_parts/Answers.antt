use Rattle.std.proofs.Common.{◌∙◌, ℕ, length, subst}
use Rattle.reo_net_base.specs.Net.{Net, net_of}
use Rattle.reo_planning.specs.Keeping.{AllServe}
use Rattle.reo_planning.proofs.Parting.{all_served}
use Rattle.reo_planning.proofs.Firsts.{planned_fit}
use Rattle.reo_planning.proofs.planning.rows_by_parts.Goals as goal

pub returns-then-all_serve-clause-exact : goal.returns-then-all_serve-clause-exact
returns-then-all_serve-clause-exact g c =
    let net : Net = net_of g.P.Primitive.behaviour c.args.planning.now.circuit.now in
    let all : AllServe (length c.args.kept.now.settled) c.args.planning.now.budget c.args.kept.now = c.all_serve.ensures.0 c.if-all_serve.true in
    all_served c.args.planning.now.budget net c.args.planning.now.knots.now c.requires.planning.knots c.args.planning.now.turn c.args.kept.now c.requires.kept
    (subst (λ (n : ℕ). AllServe n c.args.planning.now.budget c.args.kept.now) c.requires.kept.sizes.one_each all) c.in_ok-copied.field-0 (c.in_ok-copied.ensures ∙ c.as_slice.ensures)

pub returns-then-all_serve-clause-fit : goal.returns-then-all_serve-clause-fit
returns-then-all_serve-clause-fit g c =
    let net : Net = net_of g.P.Primitive.behaviour c.args.planning.now.circuit.now in
    let all : AllServe (length c.args.kept.now.settled) c.args.planning.now.budget c.args.kept.now = c.all_serve.ensures.0 c.if-all_serve.true in
    let planned = all_served c.args.planning.now.budget net c.args.planning.now.knots.now c.requires.planning.knots c.args.planning.now.turn c.args.kept.now c.requires.kept
    (subst (λ (n : ℕ). AllServe n c.args.planning.now.budget c.args.kept.now) c.requires.kept.sizes.one_each all) c.in_ok-copied.field-0 (c.in_ok-copied.ensures ∙ c.as_slice.ensures) in
    planned_fit c.args.planning.now.budget net c.known.ensures.wired c.args.planning.now.knots.now c.requires.planning.knots c.args.planning.now.turn c.in_ok-copied.field-0 planned
