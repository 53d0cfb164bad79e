use Rattle.std.proofs.Common.{◌≡◌, ℕ, ◌<◌, get_or, length, refl, slice_index, arith}
use Rattle.reo_net_base.specs.Net.{Net, all_sides, net_of}
use Rattle.reo_net_laws.proofs.Sides.{rows_length}
use Rattle.reo_trace.specs.cells.Cells.{code_at}
use Rattle.reo_trace.proofs.cells.Brought.{none_yet, one_more, plain_code}
use Rattle.reo_trace.proofs.cells.cells.Cells.renew_plain.Goals as goal

pub loop-index-init : goal.loop-index-init
loop-index-init g c =
    let net : Net = net_of g.P.Primitive.behaviour c.args.circuit.now in
    record {
      cells = c.requires.cells;
      so_far = none_yet (code_at net c.args.rows.now) c.args.sides.now c.args.self.now.shown;
      written = none_yet (slice_index c.args.rows.now) c.args.sides.now c.args.list.now;
    }

pub loop-index-preserved : goal.loop-index-preserved
loop-index-preserved g c =
    let net : Net = net_of g.P.Primitive.behaviour c.args.circuit.now in
    let n : ℕ = c.loop-index.index in
    let lt : n < length c.args.sides.now = omega arith in
    let side : ℕ = get_or c.args.sides.now n 0 in
    let side_in = c.requires.sides n lt in
    let within : side < length c.loop-index.self.shown = omega (arith, side_in, c.loop-index.invariant.cells.one_each) in
    let in_list : side < length c.loop-index.list = omega (arith, side_in, c.loop-index.invariant.written.one_each, c.requires.one_row, rows_length (all_sides net.primitives) c.args.rows.now c.requires.rows) in
    let code : get_or c.args.rows.now side 0 ≡ code_at net c.args.rows.now side = plain_code net c.args.rows.now side (c.requires.plain n lt) in
    record {
      cells = c.show.ensures.cells net c.loop-index.invariant.cells;
      so_far = rw c.show.ensures.shown (one_more (code_at net c.args.rows.now) c.args.sides.now n (get_or c.args.rows.now side 0) c.args.self.now.shown c.loop-index.self.shown within code c.loop-index.invariant.so_far);
      written = one_more (slice_index c.args.rows.now) c.args.sides.now n (get_or c.args.rows.now side 0) c.args.list.now c.loop-index.list in_list refl c.loop-index.invariant.written;
    }

pub bounds-rows-side : goal.bounds-rows-side
bounds-rows-side g c =
    let net : Net = net_of g.P.Primitive.behaviour c.args.circuit.now in
    let lt : c.loop-index.index < length c.args.sides.now = omega arith in
    let side_in = c.requires.sides c.loop-index.index lt in
    omega (arith, side_in, rows_length (all_sides net.primitives) c.args.rows.now c.requires.rows)

pub offset_bounds-rows-side : goal.offset_bounds-rows-side
offset_bounds-rows-side g c =
    let net : Net = net_of g.P.Primitive.behaviour c.args.circuit.now in
    let lt : c.loop-index.index < length c.args.sides.now = omega arith in
    let side_in = c.requires.sides c.loop-index.index lt in
    omega (arith, side_in, rows_length (all_sides net.primitives) c.args.rows.now c.requires.rows)

pub at_mut-requires : goal.at_mut-requires
at_mut-requires g c =
    let net : Net = net_of g.P.Primitive.behaviour c.args.circuit.now in
    let side_in = c.requires.sides c.loop-index.index (omega arith) in
    omega (arith, side_in, c.loop-index.invariant.written.one_each, c.requires.one_row, rows_length (all_sides net.primitives) c.args.rows.now c.requires.rows)
