use Rattle.std.proofs.Common.{◌≡◌, ◌∙◌, ℕ, ◌<◌, Bool, List, [], length, get_or, subst, arith}
use Rattle.std.proofs.lemmas.List.{get_or_default}
use Rattle.reo_net_base.specs.Net.{Net, net_of}
use Rattle.reo_net_laws.specs.Knots.{Knotted, in_knot}
use Rattle.reo_search_tables.specs.SearchTables.{AreRightOn}
use Rattle.reo_search_tables.proofs.PartSets.{is_part, part_real, part_joints, part_apart}
use Rattle.reo_search_tables.proofs.Renewed.{on_ok}
use Rattle.reo_search_tables.proofs.parts.renew_part.Goals as goal

pub renew-requires-clause-sides : goal.renew-requires-clause-sides
renew-requires-clause-sides g c =
    part_real (net_of g.P.Primitive.behaviour c.args.circuit.now) c.args.knots.now c.requires.knots c.args.part c.requires.part c.sides.result.now c.sides.ensures

pub renew-requires-clause-joints : goal.renew-requires-clause-joints
renew-requires-clause-joints g c =
    let net : Net = net_of g.P.Primitive.behaviour c.args.circuit.now in
    let orders : List (List ℕ) = c.args.orders.now in
    let part : ℕ = c.args.part in
    let joints : List ℕ = c.as_slice-joints.result.now in
    let part_in : part < length orders = omega (arith, c.requires.part, c.requires.orders.one_each) in
    let here : joints ≡ get_or orders part [] = c.as_slice-joints.ensures ∙ c.at.ensures ∙ get_or_default orders part c.at.result.now [] part_in in
    part_joints net c.args.knots.now c.requires.knots part c.requires.part c.known.ensures.wired orders c.requires.orders c.sides.result.now joints c.sides.ensures here

pub returns-clause-right : goal.returns-clause-right
returns-clause-right g c =
    let net : Net = net_of g.P.Primitive.behaviour c.args.circuit.now in
    on_ok c.renew.result c.renew.ensures.right
    (λ right. subst (λ (inside : ℕ → Bool). AreRightOn net inside c.renew.new.tables) (is_part net c.args.knots.now c.requires.knots c.args.part c.requires.part c.sides.result.now c.sides.ensures) right)

pub returns-clause-others : goal.returns-clause-others
returns-clause-others g c k lt ne right =
    let net : Net = net_of g.P.Primitive.behaviour c.args.circuit.now in
    let knots : Knotted = c.args.knots.now in
    c.renew.ensures.others (in_knot knots.numbers k) (c.requires.knots.are_knots k lt).closed
    (part_apart net knots c.requires.knots c.args.part c.requires.part c.sides.result.now c.sides.ensures k ne) right
