use Rattle.std.proofs.Common.{◌≡◌, ◌∙◌, ◌<◌, [], length, get_or, arith}
use Rattle.std.proofs.lemmas.List.{get_or_default}
use Rattle.reo_net_base.specs.Net.{Net, net_of}
use Rattle.reo_net_laws.specs.Knots.{in_knot}
use Rattle.reo_settling.proofs.Listed.{flowing_listed, joints_of_part, map_ok, set_listed}
use Rattle.reo_settling.proofs.lookups.Lookups.list_flowing.Goals as goal

pub put_flowing-requires : goal.put_flowing-requires
put_flowing-requires g c =
    let net : Net = net_of g.P.Primitive.behaviour c.args.part.now.planning.now.circuit.now in
    let lt : c.args.part.now.number < length c.args.self.now.orders = omega (arith, c.requires.part.number, c.requires.steady.orders.one_each) in
    let here : c.as_slice-joints.result.now ≡ get_or c.args.self.now.orders c.args.part.now.number [] = c.as_slice-joints.ensures ∙ c.at.ensures ∙ get_or_default c.args.self.now.orders c.args.part.now.number c.at.result.now [] lt in (
      in_knot c.args.part.now.planning.now.knots.now.numbers c.args.part.now.number,
      c.requires.rows,
      joints_of_part net c.known.ensures.wired c.args.part.now.planning.now.knots.now c.requires.part.planning.knots c.args.self.now.orders c.requires.steady.orders c.args.part.now.number c.requires.part.number c.as_slice-joints.result.now here,
    )

pub returns-clause-listed : goal.returns-clause-listed
returns-clause-listed g c = set_listed c.args.self.now c.args.part.now.number c.put_flowing.new.list

pub returns-clause-flowing : goal.returns-clause-flowing
returns-clause-flowing g c =
    let net : Net = net_of g.P.Primitive.behaviour c.args.part.now.planning.now.circuit.now in
    let lt : c.args.part.now.number < length c.args.self.now.orders = omega (arith, c.requires.part.number, c.requires.steady.orders.one_each) in
    let here : c.as_slice-joints.result.now ≡ get_or c.args.self.now.orders c.args.part.now.number [] = c.as_slice-joints.ensures ∙ c.at.ensures ∙ get_or_default c.args.self.now.orders c.args.part.now.number c.at.result.now [] lt in
    map_ok c.put_flowing.result c.put_flowing.ensures (λ is. flowing_listed net c.args.part.now.planning.now.knots.now c.args.self.now.orders c.requires.steady.orders c.args.part.now.number c.requires.part.number c.args.rows.now
    c.as_slice-joints.result.now c.put_flowing.new.list here is c.args.self.now.flowing (omega (arith, c.requires.part.number, c.requires.steady.one_list)))
