-- Directed cycles of sides.
use Rattle.std.specs.Prelude.{ℕ, ◌↔◌, List}
use Rattle.reo_net_base.specs.Wired.{NoCycle, IsOrder}
use Rattle.reo_net_base.specs.Net.{Net, from_sides, to_sides}

-- No directed cycle of sides exists exactly where the joints have an order.
abbrev pub OrderWithoutCycle : Type 0
OrderWithoutCycle = (net : Net)
    → NoCycle (from_sides net) (to_sides net) ↔ ((order : List ℕ) × IsOrder net order)
