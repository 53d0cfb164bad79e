use Rattle.std.proofs.Common.{◌≡◌, ◌≤◌, ◌*◌, ◌+◌, ℕ, map, take, slice_index}
use Rattle.reo_weights.specs.Weights.{product_of}
use Rattle.reo_item_bounds.proofs.choices.product.Given as goal

-- The product of those so far.
abbrev pub invariant-loop-index : goal.invariant-loop-index
invariant-loop-index l = record {
  is : product_of (map (λ (j : ℕ). slice_index l.bounds j + 4) (take l.index l.joints)) ≡ l.product;
  small : l.product ≤ 1000000000000000 * 260;
}
