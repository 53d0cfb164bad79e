use Rattle.std.proofs.Common.{◌≡◌, ℕ, [], get_or, Option, Some, None, sym, ◌∙◌, ap, ◌+◌, unwrap_or, arith, subst}
use Rattle.std.proofs.lemmas.List.{length-map}
use Rattle.reo_net_base.specs.Net.{Net, net_of, no_side}
use Rattle.reo_net_laws.specs.Ends.{IsRowOf}
use Rattle.reo_side_tables.specs.Marks.{side_in, apart_in, IsApartAt}
use Rattle.reo_side_tables.proofs.Growing.{AreBelow, below_more, below_skip, below_whole}
use Rattle.reo_side_tables.proofs.Sides.{apart_end}
use Rattle.reo_side_tables.proofs.joints.apart_of.Goals as goal
use Rattle.reo_side_tables.proofs.joints.apart_of.Goals.{in-Some+in_ok-add-in-Some, in-None}

pub add-requires : goal.add-requires
add-requires g c =
    let net : Net = net_of g.P.Primitive.behaviour c.args.circuit.now in
    let in_table : IsRowOf net c.args.side c.loop-row.row = λ d. omega (arith, c.rows-row-end.ensures.count d) in
    let here : apart_in net c.args.side c.loop-row.row ≡ Some c.in-Some.end = sym (c.apart.ensures no_side) ∙ c.in-Some.is in
    let end = apart_end net c.known.ensures.wired c.args.side c.owner-owner.result.primitive c.owner-owner.result.side (omega (arith, length-map c.args.circuit.now.primitives g.P.Primitive.behaviour, c.owner-owner.ensures.primitive)) c.owner-owner.ensures.side (c.owner-owner.ensures.owner no_side)
    c.loop-row.row c.in-Some.end in_table here in
    omega (arith, end.0, c.loop-row.invariant.one_each)

pub loop-row-preserved : goal.loop-row-preserved
loop-row-preserved g c =
    let net : Net = net_of g.P.Primitive.behaviour c.args.circuit.now in
    let in_table : IsRowOf net c.args.side c.loop-row.row = λ d. omega (arith, c.rows-row-end.ensures.count d) in
    let is : apart_in net c.args.side c.loop-row.row ≡ c.apart.result = sym (c.apart.ensures no_side) in
    elim c.match-apart.branch [
      | in-Some+in_ok-add-in-Some w ↦
          let here : apart_in net c.args.side c.loop-row.row ≡ Some w.in-Some.end = is ∙ w.in-Some.is in
          subst (AreBelow (IsApartAt net c.args.side) (side_in net c.args.side).of.ends (c.loop-row.row + 1)) (sym w.lists-is)
          (below_more (IsApartAt net c.args.side) (side_in net c.args.side).of.ends c.loop-row.row w.in-Some.end c.loop-row.lists w.add.new.lists c.loop-row.invariant w.in_ok-add-in-Some.ensures
          (record { in_table = in_table; apart = here }) (λ k h. ap (λ (o : Option ℕ). unwrap_or o 0) (sym h.apart ∙ here)))
      | in-None w ↦
          subst (AreBelow (IsApartAt net c.args.side) (side_in net c.args.side).of.ends (c.loop-row.row + 1)) (sym w.lists-is)
          (below_skip (IsApartAt net c.args.side) (side_in net c.args.side).of.ends c.loop-row.row c.loop-row.lists c.loop-row.invariant (λ k h. (let wrong : Some k ≡ None = sym h.apart ∙ is ∙ w.in-None.is in cc)))
    ]

pub returns-clause-apart : goal.returns-clause-apart
returns-clause-apart g c =
    let net : Net = net_of g.P.Primitive.behaviour c.args.circuit.now in
    λ end. below_whole (IsApartAt net c.args.side end) c.loop-row.row (get_or c.loop-row.lists end []) (λ k h. omega (arith, c.rows-row-end.ensures.count no_side, h.in_table no_side)) (c.loop-row.invariant.each end)
