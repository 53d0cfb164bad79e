-- A row at an end that gives.
use Rattle.reo_net_base.specs.Behaviour.{IsPlainRow}
use Rattle.reo_net_base.specs.Ends.{IsGiver}
use Rattle.reo_net_base.specs.Net.{Net, behaviour_at}
use Rattle.reo_net_circuit.specs.found_ends.Ends.{AreEnds}
use Rattle.reo_joint_values.specs.Standing.{FlowsAt}
use Rattle.reo_reach.specs.declared.giving.Giving.{Giving}
use Rattle.reo_reach.specs.Supplied.{HasPlaces}

-- It can be looked at: the ends are those of the circuit, each joint has a list and a mark, an
-- item can flow out by the end, and the row is no jam row there.
pub record IsGiving {P : Type 0} (net : Net) (giving : Giving P) : Type 0 where
  pub ends : AreEnds net giving.ends.now
  pub supply : HasPlaces net giving.supply.now
  pub giver : IsGiver net giving.giver
  pub row : IsPlainRow (behaviour_at net.primitives giving.giver.primitive)
      ((behaviour_at net.primitives giving.giver.primitive).side_of giving.giver.end) giving.row

-- An item flows there by the row.
abbrev pub FlowsThere : {P : Type 0} → Net → Giving P → Type 0
FlowsThere net giving = FlowsAt net giving.giver giving.row
