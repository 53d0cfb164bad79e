use Rattle.reo_side_tables.specs.Listing.{AreEmpty}
use Rattle.reo_side_tables.proofs.joints.empty_lists.Given as goal

abbrev pub invariant-loop-index : goal.invariant-loop-index
invariant-loop-index l = AreEmpty l._index l.lists
