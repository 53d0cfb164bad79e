-- A row of a side and where it flows.
use Rattle.std.specs.Prelude.{ℕ, Bool, List}
use Rattle.reo_net_base.specs.Net.{Net}
use Rattle.reo_net_laws.specs.Ends.{IsRowOf}
use Rattle.reo_joint_values.specs.Values.{Names, Family}
use Rattle.reo_side_tables.specs.Boards.{IsFlow}
use Rattle.reo_side_tables.specs.Marks.{TakesFlow, GivesFlow}
use Rattle.reo_rows.specs.declared.flowing.Flowing.{Flowing}
use Rattle.reo_rows.specs.Basis.{IsReadyOn}
use Rattle.reo_rows.specs.Seeing.{HasValuePlaces}
use Rattle.reo_rows.specs.Sets.{family_of, names_of}

-- It can be looked at: a search can rest on its basis, with a flag for each value; the row is one
-- of the side, and flows as said.
pub record IsFlowing {P : Type 0} (net : Net) (flowing : Flowing P) : Type 0 where
  pub ready : IsReadyOn net flowing.basis.now flowing.alive.now
  pub row : IsRowOf net flowing.side flowing.row
  pub flow : IsFlow net flowing.side flowing.row flowing.flow.now

-- The items by joint and number.
abbrev pub names_in : {P : Type 0} → Flowing P → Names
names_in flowing = names_of flowing.basis.now.items.now

-- The values that are left.
abbrev pub family_in : {P : Type 0} → Flowing P → Family
family_in flowing = family_of flowing.alive.now

-- The row takes in with flow at a joint.
abbrev pub TakesThere : {P : Type 0} → Net → Flowing P → ℕ → Type 0
TakesThere net flowing joint = TakesFlow net flowing.side flowing.row joint

-- The row gives with flow at a joint.
abbrev pub GivesThere : {P : Type 0} → Net → Flowing P → ℕ → Type 0
GivesThere net flowing joint = GivesFlow net flowing.side flowing.row joint

-- A table with a flag for each value of each joint.
abbrev pub HasPlacesFor : {P : Type 0} → Net → Flowing P → List (List Bool) → Type 0
HasPlacesFor net flowing table = HasValuePlaces net flowing.basis.now.items.now table
