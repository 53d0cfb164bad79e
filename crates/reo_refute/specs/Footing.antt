-- What the parts of a log rest on.
use Rattle.std.specs.Prelude.{◌≡◌, length, map}
use Rattle.reo_net_base.specs.Net.{Net}
use Rattle.reo_net_base.specs.First.{positions}
use Rattle.reo_net_base.specs.Sides.{AreRowsOf}
use Rattle.reo_refute_parts.specs.places.KeyPlaces.{position_of}
use Rattle.reo_refute_live.specs.support.Columns.{AreTables}
use Rattle.reo_refute_live.specs.OpenBranch.{AreSmall}
use Rattle.reo_refute.specs.declared.footing.Footing.{Footing}

-- Parts can rest on it: the given rows are rows of the sides, the places are those of the key, the
-- tables are those of the sides, each joint has an item list, and the numbers of items are small.
pub record IsFooting {P : Type 0} (net : Net) (round : Footing P) : Type 0 where
  pub given : AreRowsOf net round.given.now
  pub places : map (position_of net round.turn) round.places.now ≡ positions net round.turn
  pub tables : AreTables net round.tables.now
  pub supply : length round.lists.now ≡ length net.joints
  pub small : AreSmall round.lists.now
