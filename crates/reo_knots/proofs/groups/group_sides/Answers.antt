use Rattle.std.proofs.Common.{refl, true, get_or}
use Rattle.std.specs.Prelude.{◌==◌}
use Rattle.reo_net_laws.proofs.KnotGroups.{more_picked}
use Rattle.reo_knots.proofs.groups.group_sides.Goals as goal

pub loop-side-preserved : goal.loop-side-preserved
loop-side-preserved c =
    more_picked (λ k s. get_or c.args.numbers.now s 0 == k) c.loop-side.side c.loop-side.groups.items c.add.new.groups.items c.args.count (get_or c.args.numbers.now c.loop-side.side 0) true c.loop-side.invariant c.in_ok-add.ensures
    (λ k lt. refl)
