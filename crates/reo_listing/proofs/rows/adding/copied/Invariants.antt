use Rattle.std.proofs.Common.{◌≡◌, take}
use Rattle.reo_listing.proofs.rows.adding.copied.Given as goal

abbrev pub invariant-loop-mark : goal.invariant-loop-mark
invariant-loop-mark l = l.made ≡ take l.mark-index l.marks
