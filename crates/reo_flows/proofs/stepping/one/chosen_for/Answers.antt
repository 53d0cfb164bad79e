use Rattle.std.proofs.Common.{◌∙◌, ◌<◌, ◌+◌, List, length, map, ap, sym, arith, cond, get_or}
use Rattle.std.specs.Prelude.{◌==◌}
use Rattle.std.proofs.lemmas.List.{length-map}
use Rattle.reo_net_base.specs.Behaviour.{Behaviour}
use Rattle.reo_net_laws.proofs.Sides.{side_in}
use Rattle.reo_flows.proofs.stepping.one.chosen_for.Goals as goal

pub chosen-requires-clause-first : goal.chosen-requires-clause-first
chosen-requires-clause-first g c =
    let bs : List Behaviour = map g.P.Primitive.behaviour c.args.circuit.now.primitives in
    let i_in : c.args.index < length bs = omega (arith, c.requires.index, length-map c.args.circuit.now.primitives g.P.Primitive.behaviour) in
    let there = side_in bs c.args.index 0 i_in (c.known.ensures.wired.lawful c.args.index i_in).some_side in
    omega (arith, there, c.first_of-first.ensures, c.requires.rows)

pub chosen-requires-clause-second : goal.chosen-requires-clause-second
chosen-requires-clause-second g c = λ two.
    let bs : List Behaviour = map g.P.Primitive.behaviour c.args.circuit.now.primitives in
    let i_in : c.args.index < length bs = omega (arith, c.requires.index, length-map c.args.circuit.now.primitives g.P.Primitive.behaviour) in
    let sides = ap (λ (b : Behaviour). b.sides) (sym c.primitive.ensures.behaviour) ∙ two in
    let there = side_in bs c.args.index 1 i_in (omega (arith, sides)) in
    omega (arith, there, c.first_of-first.ensures, c.requires.rows)

pub returns : goal.returns
returns g c =
    c.chosen.ensures
    ∙ (λ t. record {
      first = get_or c.args.rows.now (c.first_of-first.ensures t) 0;
      second = cond ((c.primitive.ensures.behaviour t).sides == 2) (get_or c.args.rows.now (c.first_of-first.ensures t + 1) 0) 0;
    })
