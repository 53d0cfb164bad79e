use Rattle.std.proofs.Common.{length, arith}
use Rattle.reo_lanes.proofs.RowLemmas.{kept_on, all_kept}
use Rattle.reo_lanes.proofs.rows.keep_rows.Goals as goal

pub returns : goal.returns
returns c =
    let column = c.args.column.now in
    let live = c.args.live.now in
    let done = c.loop-at.invariant in
    all_kept column c.args.allowed live c.keep_rest.new.live c.requires
    (kept_on column c.args.allowed 0 c.loop-at.at (length column) live c.loop-at.live c.keep_rest.new.live (omega arith) (omega arith) done.1 c.keep_rest.ensures)
