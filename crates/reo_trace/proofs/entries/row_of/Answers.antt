use Rattle.std.proofs.Common.{◌<◌, ◌+◌, rules, length}
use Rattle.std.proofs.lemmas.List.{length-map}
use Rattle.reo_net_base.specs.Net.{Net, net_of}
use Rattle.reo_trace.proofs.Places.{row_in}
use Rattle.reo_trace.proofs.entries.row_of.Given.{Over}
use Rattle.reo_trace.proofs.entries.row_of.Goals as goal

-- there is such a row
inside : (g : Over) (c : goal.After-first_of-first g) → c.first_of-first.result + c.args.side < length c.args.rows.now
inside g c =
    let net : Net = net_of g.P.Primitive.behaviour c.args.circuit.now in
    let there : c.args.index < length net.primitives = rw length-map c.requires.index in
    rw c.first_of-first.ensures (row_in net c.args.rows.now c.requires.rows c.args.index c.args.side there c.requires.side)

pub bounds-rows-first : goal.bounds-rows-first
bounds-rows-first g c =
    let net : Net = net_of g.P.Primitive.behaviour c.args.circuit.now in
    let there : c.args.index < length net.primitives = rw length-map c.requires.index in
    rw c.first_of-first.ensures (row_in net c.args.rows.now c.requires.rows c.args.index c.args.side there c.requires.side)

pub overflow_add-result : goal.overflow_add-result
overflow_add-result g c = search (rules, inside g c)

pub offset_bounds-rows-first : goal.offset_bounds-rows-first
offset_bounds-rows-first g c = search (rules, inside g c)
