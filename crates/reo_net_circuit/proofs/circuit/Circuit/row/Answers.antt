-- There is one row a side, within its table.
use Rattle.std.proofs.Common.{arith}
use Rattle.reo_net_base.specs.Net.{Net, all_sides, net_of}
use Rattle.reo_net_circuit.proofs.circuit.Circuit.row.Goals as goal
use Rattle.reo_net_circuit.proofs.Sides.{rows_length, row_below}

pub bounds-rows-side : goal.bounds-rows-side
bounds-rows-side g c =
    let net : Net = net_of g.P.Primitive.behaviour c.args.self.now in
    omega (arith, rows_length (all_sides net.primitives) c.args.rows.now c.requires.rows)

pub offset_bounds-rows-side : goal.offset_bounds-rows-side
offset_bounds-rows-side g c =
    let net : Net = net_of g.P.Primitive.behaviour c.args.self.now in
    omega (arith, rows_length (all_sides net.primitives) c.args.rows.now c.requires.rows)

pub returns-clause-in_table : goal.returns-clause-in_table
returns-clause-in_table g c = λ e.
    let net : Net = net_of g.P.Primitive.behaviour c.args.self.now in
    row_below (all_sides net.primitives) c.args.rows.now c.requires.rows c.args.side e c.requires.side
