use Rattle.std.proofs.Common.{add-one}
use Rattle.reo_live.proofs.talk.LineLemmas.{cut_at}
use Rattle.reo_live.proofs.talk.lines.cut_line.Goals as goal

pub returns-then-bytes-index-eq10 : goal.returns-then-bytes-index-eq10
returns-then-bytes-index-eq10 c =
    cut_at c.args.bytes.now c.loop-index.index _ (add-one c.loop-index.index) c.loop-index-test.true c.if-bytes-index-eq10.true c.loop-index.invariant
