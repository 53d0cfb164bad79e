use Rattle.std.proofs.Common.{refl}
use Rattle.reo_walk.proofs.Pinned.{pins_none, pins_more}
use Rattle.reo_walk.proofs.pinning.pin.Goals as goal

pub loop-index-init : goal.loop-index-init
loop-index-init g c = record { pinned = pins_none c.args.joints.now c.args.codes.now c.args.state.now.alive; search = c.requires.search }

pub loop-index-preserved : goal.loop-index-preserved
loop-index-preserved g c = record {
  pinned = pins_more c.args.joints.now c.args.codes.now c.loop-index.index _ _ c.args.state.now.alive c.loop-index.state.alive c.pin_and_wake.new.state.alive refl refl c.loop-index.invariant.pinned c.in_ok-pin_and_wake.ensures.pinned;
  search = c.in_ok-pin_and_wake.ensures.search;
}
