use Rattle.std.proofs.Common.{get_or, arith, rules, below_more}
use Rattle.std.proofs.lemmas.Option.{slice_get-get_or}
use Rattle.reo_net_base.specs.Net.{Net, net_of}
use Rattle.reo_trace.specs.declared.line.Cell.TheVariants.{Row}
use Rattle.reo_trace.specs.declared.line.Entry.{Entry}
use Rattle.reo_trace.specs.declared.line.Entry.TheVariants.{One}
use Rattle.reo_runs.specs.verdicts.Said.{HasRows}
use Rattle.reo_verify.proofs.judging.RowLemmas.{no_row, all_rows}
use Rattle.reo_verify.proofs.judging.rows.row_break.Goals as goal

pub returns-then-not-are_row_cells : goal.returns-then-not-are_row_cells
returns-then-not-are_row_cells g c =
    let net : Net = net_of g.P.Primitive.behaviour c.args.circuit.now in
    let e : Entry = get_or c.args.entries.now c.loop-index.index (One (Row 0)) in
    record {
      in_range = omega (arith, c.loop-index-test.true, c.requires.one_each);
      out = no_row net c.args.entries.now c.loop-index.index e (slice_get-get_or c.args.entries.now c.loop-index.index (One (Row 0)) (omega (arith, c.loop-index-test.true)))
          (rw c.primitive.ensures.behaviour at (c.are_row_cells.ensures.are_not c.if-not-are_row_cells.true));
      before = c.loop-index.invariant;
    }

pub loop-index-preserved : goal.loop-index-preserved
loop-index-preserved g c = λ i lt.
    let net : Net = net_of g.P.Primitive.behaviour c.args.circuit.now in
    let e : Entry = get_or c.args.entries.now c.loop-index.index (One (Row 0)) in
    let here : HasRows net c.args.entries.now c.loop-index.index =
    all_rows net c.args.entries.now c.loop-index.index e (slice_get-get_or c.args.entries.now c.loop-index.index (One (Row 0)) (omega (arith, c.loop-index-test.true)))
    (rw c.primitive.ensures.behaviour at (c.are_row_cells.ensures.are (search rules))) in
    below_more (HasRows net c.args.entries.now) c.loop-index.index c.loop-index.invariant here i lt
