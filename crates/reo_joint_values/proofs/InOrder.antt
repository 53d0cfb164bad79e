-- Orders of joints, in which items can be found.
use Rattle.std.proofs.Common.{◌≡◌, ℕ, ◌<◌, List, length, get_or, ap, ◌∙◌}
use Rattle.reo_net_base.specs.Net.{Net, side_at}
use Rattle.reo_net_base.specs.Ends.{IsGiver}
use Rattle.reo_net_base.specs.Wired.{IsWired, IsOrder}
use Rattle.reo_joint_values.proofs.Sides.{same_side_at}
use Rattle.reo_net_laws.proofs.Orders.{place_in, fed_before}
use Rattle.reo_joint_values.specs.Standing.{no_joint, giver_of, taker_of, Brings}
use Rattle.reo_joint_values.specs.InOrder.{AreInOrder}
use Rattle.reo_joint_values.proofs.Sources.{source_is}

module _ (net : Net) (wired : IsWired net) where
  pub giver_at : (j : ℕ) → j < length net.joints → IsGiver net (giver_of net j)
  giver_at j lt = record { is_end = wired.givers j no_joint lt; gives = wired.gives j no_joint lt }

  -- A joint that brings what a row gives at another goes to the side that the other comes from.
  pub brings_feeds : (j row k : ℕ) → j < length net.joints → Brings net (giver_of net j) row k → side_at net (taker_of net k) ≡ side_at net (giver_of net j)
  brings_feeds j row k lt brings =
      ap (side_at net) brings.taker ∙ same_side_at net (giver_of net j) brings.from (source_is net wired (giver_of net j) (giver_at j lt) row brings.flows brings.from brings.decides)

  -- In an order of all joints each stands behind those that bring what rows give there.
  pub order_in_order : (order : List ℕ) → IsOrder net order → AreInOrder net order
  order_in_order order is = record {
    in_range = place_in net order is;
    once = is.once;
    brought = λ m row k lt brings.
        fed_before net order is m no_joint lt k no_joint brings.in_range (brings_feeds (get_or order m 0) row k (place_in net order is m lt) brings);
  }
