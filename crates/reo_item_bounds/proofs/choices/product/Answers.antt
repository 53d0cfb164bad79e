use Rattle.std.proofs.Common.{ℕ, ◌+◌, arith, get_or}
use Rattle.reo_item_bounds.proofs.Bounded.{product_next}
use Rattle.reo_item_bounds.proofs.choices.product.Goals as goal

pub loop-index-preserved : goal.loop-index-preserved
loop-index-preserved c = record {
  is = product_next (λ (j : ℕ). get_or c.args.bounds.now j 0 + 4) c.args.joints.now c.loop-index.index c.loop-index.product (omega arith) c.loop-index.invariant.is;
  small = grind arith;
}
