use Rattle.std.proofs.Common.{◌∙◌, ◌+◌, List, map, ap, arith}
use Rattle.std.proofs.lemmas.List.{length-map}
use Rattle.reo_net_base.specs.Behaviour.{Behaviour}
use Rattle.reo_net_base.specs.Net.{Side, no_side, all_sides, row_count, net_of, first_side}
use Rattle.reo_net_laws.proofs.Sides.{are_rows, side_is, first_before}
use Rattle.reo_checker.proofs.rows.row_fault.Goals as goal

pub returns-then-rows-side : goal.returns-then-rows-side
returns-then-rows-side g c =
    let bs : List Behaviour = map g.P.Primitive.behaviour c.args.circuit.now.primitives in
    let count = c.rows.ensures.count no_side ∙ ap row_count (c.owner.ensures.owner no_side) in
    record {
      in_range = omega (arith, c.owner.ensures.primitive, length-map c.args.circuit.now.primitives g.P.Primitive.behaviour);
      out = record {
        side = c.owner.result.side;
        is_side = c.owner.ensures.side;
        out = rw (← c.owner.ensures.place) (omega (arith, count));
      };
      before = λ k k_lt s s_in.
          let before = first_before bs k c.owner.result.primitive k_lt (omega (arith, c.owner.ensures.primitive, length-map c.args.circuit.now.primitives g.P.Primitive.behaviour)) in
          rw (side_is bs k s no_side (omega (arith, k_lt, c.owner.ensures.primitive, length-map c.args.circuit.now.primitives g.P.Primitive.behaviour)) s_in)
          at (c.loop-side.invariant (first_side bs k + s) no_side (omega (arith, before, s_in, c.owner.ensures.place)));
    }

pub returns : goal.returns
returns g c =
    let sides : List Side = all_sides (net_of g.P.Primitive.behaviour c.args.circuit.now).primitives in
    are_rows sides c.args.rows.now c.requires (λ k e lt. c.loop-side.invariant k e (omega arith))
