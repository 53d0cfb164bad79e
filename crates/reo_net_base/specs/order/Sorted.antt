-- What an order, or an arrow on a cycle, tells.
use Rattle.std.specs.Prelude.{ℕ, List}
use Rattle.reo_net_base.specs.declared.order.ordering.Sorted.{Sorted}
use Rattle.reo_net_base.specs.declared.order.ordering.Sorted.TheVariants.{Order, Cycle}
use Rattle.reo_net_base.specs.order.Arrows.{IsTopological, IsLeastOnCycle}

-- The order is one, or the arrow is the least on a directed cycle.
abbrev pub IsSorted : List ℕ → List ℕ → Sorted → Type 0
IsSorted from to (Order order) = IsTopological from to order.items
IsSorted from to (Cycle j) = IsLeastOnCycle from to j
