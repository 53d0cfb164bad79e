-- As many arrows as can stand in an order, and those that no cycle goes through.
use Rattle.std.specs.Prelude.{ℕ, ◌<◌, ◌≡◌, Bool, true, false, List, length, slice_index_or}
use Rattle.reo_net_base.specs.order.Arrows.{OnCycle, HasCycle, AreFed}
use Rattle.reo_net_base.specs.order.Queue.{IsQueue}

-- A list of arrows, each behind those that feed it; where one is left out there is a cycle.
pub record IsFront (from to order : List ℕ) (placed : List Bool) : Type 0 where
  pub queue : IsQueue (length from) order placed
  pub fed : AreFed from to order
  pub left : (j : ℕ) → j < length from → slice_index_or placed j false ≡ false → HasCycle from to

-- A flag for each arrow, and no arrow with a flag that is set lies on a cycle.
pub record AreOff (from to : List ℕ) (off : List Bool) : Type 0 where
  pub flags : length off ≡ length from
  pub none_on_cycle : (j : ℕ) → slice_index_or off j false ≡ true → OnCycle from to j → ⊥
