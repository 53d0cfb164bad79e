use Rattle.std.proofs.Common.{◌<◌, List, length, refl, arith}
use Rattle.reo_net_base.specs.Net.{Side, no_side, all_sides, net_of}
use Rattle.reo_net_circuit.proofs.circuit.Circuit.are_rows.Goals as goal
use Rattle.reo_net_circuit.proofs.Sides.{are_rows, row_below, rows_length}

pub returns-then-rows-sides : goal.returns-then-rows-sides
returns-then-rows-sides g c =
    let sides : List Side = all_sides (net_of g.P.Primitive.behaviour c.args.self.now).primitives in
    (λ h. absurd cc, λ are. let n = rows_length sides c.args.rows.now are in absurd (omega (arith, n)))

pub returns-then-rows-side : goal.returns-then-rows-side
returns-then-rows-side g c =
    let sides : List Side = all_sides (net_of g.P.Primitive.behaviour c.args.self.now).primitives in
    let lt : c.loop-side.side < length sides = omega arith in (
      λ h. absurd cc,
      λ are.
          let below = row_below sides c.args.rows.now are c.loop-side.side no_side lt in
          let count = c.rows.ensures.count no_side in
          absurd (omega (arith, below, count)),
    )

pub returns : goal.returns
returns g c =
    let sides : List Side = all_sides (net_of g.P.Primitive.behaviour c.args.self.now).primitives in
    (λ h. are_rows sides c.args.rows.now (omega arith) (λ k e lt. c.loop-side.invariant k e (omega arith)), λ are. refl)
