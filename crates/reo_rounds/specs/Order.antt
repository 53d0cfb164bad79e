-- Circuits whose joints have an order.
use Rattle.std.specs.Prelude.{ℕ, List}
use Rattle.reo_net_base.specs.Net.{Net}
use Rattle.reo_net_base.specs.Wired.{IsWired, IsOrder}

-- A circuit that is put together well, with an order of its joints.
pub record HasOrder (net : Net) : Type 0 where
  pub wired : IsWired net
  pub order : List ℕ
  pub is_order : IsOrder net order
