use Rattle.std.proofs.Common.{◌∙◌, ◌<◌, [], length, subst, sym, arith}
use Rattle.std.proofs.lemmas.List.{get_or_default}
use Rattle.reo_net_base.specs.Net.{Net, net_of}
use Rattle.reo_net_laws.specs.Knots.{in_knot}
use Rattle.reo_flows.specs.flowing.Flowing.{AreFlowingOf}
use Rattle.reo_settling.proofs.lookups.Lookups.remember.Goals as goal

pub remember-requires-clause-flowing : goal.remember-requires-clause-flowing
remember-requires-clause-flowing g c =
    let net : Net = net_of g.P.Primitive.behaviour c.args.part.now.planning.now.circuit.now in
    let lt : c.args.part.now.number < length c.args.self.now.flowing = omega (arith, c.requires.part.number, c.requires.steady.one_list) in
    let here = c.as_slice-joints.ensures ∙ c.at.ensures ∙ get_or_default c.args.self.now.flowing c.args.part.now.number c.at.result.now [] lt in
    subst (AreFlowingOf net (in_knot c.args.part.now.planning.now.knots.now.numbers c.args.part.now.number) c.args.rows.now) (sym here) c.requires.flowing
