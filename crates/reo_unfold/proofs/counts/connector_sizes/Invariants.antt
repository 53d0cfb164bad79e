-- The sizes of the items so far.
use Rattle.std.proofs.Common.{List, take, max, fold, sum_by}
use Rattle.reo_trees.specs.declared.items.Item.{Item}
use Rattle.reo_flat.specs.Unfolding.{Meaning, uses_in, depth_in, placed_in}
use Rattle.reo_flat.specs.Counts.{IsSizeOf, AreSizes}
use Rattle.reo_unfold.proofs.counts.connector_sizes.Given as goal

abbrev pub invariant-loop-item : goal.invariant-loop-item
invariant-loop-item l =
    (known : List Meaning) → AreSizes known l.names l.table → IsSizeOf (sum_by (λ (i : Item). uses_in known i.form) (take l.item-index l.items))
    (fold (λ most (i : Item). max most (depth_in known i.form)) 0 (take l.item-index l.items)) (sum_by (λ (i : Item). placed_in known i.form) (take l.item-index l.items)) l.total
