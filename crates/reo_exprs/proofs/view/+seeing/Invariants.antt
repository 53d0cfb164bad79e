use Rattle.std.proofs.Common.{◌+◌}
use Rattle.reo_exprs.specs.Views.{work, work_of_view}
use Rattle.reo_exprs.proofs.view.+seeing.Given as goal

abbrev pub decreases-one_view : goal.decreases-one_view
decreases-one_view l = work_of_view l.x + 1

abbrev pub decreases-two_view : goal.decreases-two_view
decreases-two_view l = work l.pair.now.left + work l.pair.now.right + 2

abbrev pub decreases-view_of : goal.decreases-view_of
decreases-view_of l = work l.expr.now

abbrev pub decreases-is_item : goal.decreases-is_item
decreases-is_item l = work_of_view l.x

abbrev pub decreases-same_view : goal.decreases-same_view
decreases-same_view l = work_of_view l.x + work_of_view l.y + 1

abbrev pub decreases-same_made : goal.decreases-same_made
decreases-same_made l = work_of_view l.x + work_of_view l.y
