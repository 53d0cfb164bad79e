use Rattle.std.proofs.Common.{slice_index_or, ◌≡◌, ℕ, ◌<◌, [], length, get_or, sym, ◌∙◌, ap, subst, arith}
use Rattle.std.proofs.lemmas.List.{get_or_default}
use Rattle.reo_net_base.specs.declared.joint.End.{End}
use Rattle.reo_net_base.specs.Net.{Net, net_of, no_side}
use Rattle.reo_net_laws.specs.Ends.{IsRowOf}
use Rattle.reo_side_tables.specs.Listing.{Lists}
use Rattle.reo_side_tables.specs.Marks.{end_at, IsApartAt}
use Rattle.reo_side_tables.specs.Grouping.{IsAsSomeGroup}
use Rattle.reo_side_tables.proofs.Adding.{added_both, apart_or_not}
use Rattle.reo_side_tables.proofs.Sides.{end_of_side}
use Rattle.reo_side_tables.proofs.flows.add_joint.Goals as goal

pub at-requires : goal.at-requires
at-requires g c =
    let net : Net = net_of g.P.Primitive.behaviour c.args.circuit.now in
    let end = end_of_side net c.known.ensures.wired c.args.side c.args.joint c.requires.joint no_side in
    let is : c.end_at-end.result.end ≡ (end_at net c.args.side c.args.joint).end = ap (λ (x : End). x.end) c.end_at-end.ensures in
    omega (arith, end.0, is, c.requires.ends)

pub add_apart-requires-clause-rows : goal.add_apart-requires-clause-rows
add_apart-requires-clause-rows g c =
    let net : Net = net_of g.P.Primitive.behaviour c.args.circuit.now in
    let is : c.end_at-end.result.end ≡ (end_at net c.args.side c.args.joint).end = ap (λ (x : End). x.end) c.end_at-end.ensures in
    let end = end_of_side net c.known.ensures.wired c.args.side c.args.joint c.requires.joint no_side in
    let lt : c.end_at-end.result.end < length c.args.apart.now = omega (arith, end.0, is, c.requires.ends) in
    let here : slice_index_or c.args.apart.now c.end_at-end.result.end [] ≡ c.as_slice.result.now = get_or_default c.args.apart.now c.end_at-end.result.end [] c.at.result.now lt ∙ sym c.at.ensures ∙ sym c.as_slice.ensures in
    subst (Lists (IsApartAt net c.args.side (end_at net c.args.side c.args.joint).end)) here (subst (λ (x : ℕ). Lists (IsApartAt net c.args.side x) (get_or c.args.apart.now c.end_at-end.result.end [])) is (c.requires.apart c.end_at-end.result.end))

pub returns : goal.returns
returns g c =
    let net : Net = net_of g.P.Primitive.behaviour c.args.circuit.now in
    added_both net c.args.side c.args.joint (IsAsSomeGroup net c.args.side c.args.joint) (IsApartAt net c.args.side (end_at net c.args.side c.args.joint).end) (IsRowOf net c.args.side) c.args.flows.now c.add_groups.new.flows c.add_apart.new.flows
    c.in_ok-add_groups.ensures c.in_ok-add_apart.ensures
    (λ row lt mark in_table. apart_or_not net c.known.ensures.wired c.args.side c.args.joint row c.requires.joint in_table mark)
