use Rattle.std.proofs.Common.{arith}
use Rattle.reo_round.proofs.Filled.{cleared_all, cleared_more, cleared_none}
use Rattle.reo_round.proofs.made_round.cleared.Goals as goal

pub loop-index-init : goal.loop-index-init
loop-index-init c = cleared_none c.args.flowing.now c.args.items

pub loop-index-preserved : goal.loop-index-preserved
loop-index-preserved c = cleared_more c.args.flowing.now c.loop-index.index c.args.items c.loop-index.items _ c.loop-index.invariant c.clear_at.ensures

pub returns : goal.returns
returns c = cleared_all c.args.flowing.now c.loop-index.index c.args.items c.loop-index.items (omega arith) c.loop-index.invariant c.requires
