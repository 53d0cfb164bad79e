use Rattle.std.proofs.Common.{subst, sym, ◌+◌}
use lib.Lanes.{put_chunk}
use Rattle.reo_lanes.specs.Rows.{KeptBetween}
use Rattle.reo_lanes.proofs.RowLemmas.{lanes_kept}
use Rattle.reo_lanes.proofs.rows.keep_chunk.Goals as goal

pub returns : goal.returns
returns c = subst (λ lanes. KeptBetween c.args.column.now c.args.allowed c.args.at (c.args.at + 32) c.args.live.now (put_chunk c.args.at c.args.live.now lanes)) (sym c.kept_lanes.ensures) (lanes_kept c.args.column.now c.args.allowed c.args.at 32 c.args.live.now c.requires.cells c.requires.rows)
