-- Rows that fit the values at the joints of their side.
use Rattle.std.specs.Prelude.{ℕ, ◌<◌, ◌≡◌, Bool, true, Option, Some, length}
use Rattle.std.specs.Option.{option_and_then}
use Rattle.reo_values.specs.declared.value.Value.{Value}
use Rattle.reo_net_base.specs.declared.mark.Mark.TheVariants.{F}
use Rattle.reo_net_base.specs.declared.joint.End.{End}
use Rattle.reo_net_base.specs.Behaviour.{Behaviour}
use Rattle.reo_net_base.specs.Net.{Net, behaviour_at, end_of}
use Rattle.reo_net_base.specs.Colouring.{taken_at}
use Rattle.reo_net_laws.specs.Ends.{mark_in, from_in, IsRowOf}
use Rattle.reo_joint_values.specs.declared.value.JointValue.{JointValue}
use Rattle.reo_joint_values.specs.Values.{giver_mark, taker_mark, Names, Choice, Family, item_named, items_of, joint_of, giver_side, taker_side, AtSide}

-- What a row gives at an end of its side for what it takes at the end that decides.
unfoldable pub given_for : Net → ℕ → End → Option Value → Option Value
given_for net row e taken =
    let b : Behaviour = behaviour_at net.primitives e.primitive in
    b.given (b.side_of e.end) row e.end taken

-- What a row gives at an end of its side, by the items of a choice.
unfoldable pub given_in : Net → Names → Choice → ℕ → End → Option Value
given_in net names choice row e =
    let taken : ℕ → Option Value =
    λ from. taken_at net.joints (items_of net names choice) (end_of e.primitive from) in
    given_for net row e (option_and_then taken (from_in net row e))

-- Whether a row lets an item in at an end of its side.
unfoldable pub passes_in : Net → ℕ → End → Value → Bool
passes_in net row e item =
    let b : Behaviour = behaviour_at net.primitives e.primitive in
    b.passes (b.side_of e.end) row e.end item

-- A value at a joint fits a row of the giver's side: it has the row's mark there and, where it
-- flows, the item that the row gives.
pub record GivesValue (net : Net) (names : Names) (choice : Choice) (row : ℕ) (e : End) (j : ℕ)
    (v : JointValue) : Type 0 where
  pub mark : giver_mark v ≡ mark_in net row e
  pub item : giver_mark v ≡ F → given_in net names choice row e ≡ item_named names j v

-- A value at a joint fits a row of the taker's side: it has the row's mark there, and its item is
-- let in.
pub record TakesValue (net : Net) (names : Names) (row : ℕ) (e : End) (j : ℕ) (v : JointValue)
    : Type 0 where
  pub mark : taker_mark v ≡ mark_in net row e
  pub let_in : (item : Value) → item_named names j v ≡ Some item → passes_in net row e item ≡ true

-- A row of a side fits the values chosen at its joints.
pub record Fits (net : Net) (names : Names) (choice : Choice) (side row : ℕ) : Type 0 where
  pub in_table : IsRowOf net side row
  pub gives : (j : ℕ) → j < length net.joints → giver_side net j ≡ side
      → GivesValue net names choice row (joint_of net j).giver j (choice j)
  pub takes : (j : ℕ) → j < length net.joints → taker_side net j ≡ side
      → TakesValue net names row (joint_of net j).taker j (choice j)

-- The values chosen at the joints of a side are in a family.
abbrev pub IsFrom : Net → Family → Choice → ℕ → Type 0
IsFrom net family choice side = (j : ℕ) → j < length net.joints → AtSide net j side
    → family j (choice j) ≡ true
