-- The items that the state gives at the sides of a part.
use Rattle.std.specs.Prelude.{ℕ, ◌<◌, ◌≡◌, ◌⊎◌, List, Option, Some, None, length, slice_index, slice_index_or}
use Rattle.reo_values.specs.declared.value.Value.{Value}
use Rattle.reo_net_base.specs.Behaviour.{Behaviour}
use Rattle.reo_net_base.specs.Lawful.{GivesAt}
use Rattle.reo_net_base.specs.Net.{Net, Side, all_sides}
use Rattle.reo_net_laws.specs.state_laws.States.{LetsIn}

-- What the state alone gives at a side, by whatever row: this item, or none.
abbrev pub GivesOnly : Behaviour → ℕ → Option Value → Type 0
GivesOnly b side item = (row end : ℕ) (taken : Option Value) → GivesAt b side row end → b.from side row end ≡ None
    → b.given side row end taken ≡ item

-- Each row of each of some sides lets each item in.
abbrev pub LetAllIn : Net → List ℕ → Type 0
LetAllIn net sides = (m : ℕ) (s : Side) → m < length sides
    → LetsIn (slice_index_or (all_sides net.primitives) (slice_index sides m) s).of
    (slice_index_or (all_sides net.primitives) (slice_index sides m) s).number

-- What the state alone gives at some sides, for each of them.
pub record AreItems (net : Net) (sides : List ℕ) (items : List (Option Value)) : Type 0 where
  pub one_each : length items ≡ length sides
  pub each : (m : ℕ) (d : Option Value) (s : Side) → m < length sides
      → GivesOnly (slice_index_or (all_sides net.primitives) (slice_index sides m) s).of
      (slice_index_or (all_sides net.primitives) (slice_index sides m) s).number (slice_index_or items m d)

-- What decides at some sides besides their tables: nothing where each row lets each item in, and else the items that
-- the state gives.
abbrev pub Decide : Net → List ℕ → List (Option Value) → Type 0
Decide net sides items = LetAllIn net sides ⊎ AreItems net sides items

-- The state gives at some sides the items that are noted. Where none is noted nothing is said.
abbrev pub AreGiven : Net → List ℕ → List (Option Value) → Type 0
AreGiven net sides items = (m : ℕ) (item : Value) (s : Side) → m < length items
    → slice_index_or items m None ≡ Some item
    → GivesOnly (slice_index_or (all_sides net.primitives) (slice_index sides m) s).of
    (slice_index_or (all_sides net.primitives) (slice_index sides m) s).number (Some item)
