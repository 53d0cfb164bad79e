-- The items of joints, numbered in the order in which passes over the joints find them.
use Rattle.std.specs.Prelude.{ℕ, suc, zero, ◌-◌, ◌≡◌, cond, Option, Some, None, List, [], ◌∷◌, ◌++◌, Contains, length, map, slice_index_or, slice_set}
use Rattle.std.specs.List.{flat_map, position_or_len, range_with_len, slice_get}
use Rattle.reo_values.specs.declared.value.Value.{Value}
use Rattle.reo_net_base.specs.declared.joint.End.{End}
use Rattle.reo_net_base.specs.declared.joint.Joint.{Joint}
use Rattle.reo_net_base.specs.Marks.{is_flow}
use Rattle.reo_net_base.specs.Net.{Net, behaviour_at, end_of, end_eq}
use Rattle.reo_net_laws.specs.Ends.{mark_in, from_in}
use Rattle.reo_joint_values.specs.Values.{Names, joint_of}
use Rattle.reo_joint_values.specs.Fitting.{given_for, passes_in}

-- A list of items for each joint.
abbrev pub Lists : Type 0
Lists = List (List Value)

-- The items of a joint.
abbrev pub items_at : Lists → ℕ → List Value
items_at lists j = slice_index_or lists j []

-- The items by their numbers in lists.
abbrev pub numbered : Lists → Names
numbered lists j n = slice_get (items_at lists j) n

-- The joint that goes to an end.
abbrev pub joint_into : Net → End → ℕ
joint_into net e = position_or_len (λ (joint : Joint). end_eq joint.taker e) net.joints

-- One item or none, as a list.
abbrev pub listed : Option Value → List Value
listed None = []
listed (Some item) = item ∷ []

-- What a row gives at an end for an item that comes in at the end that decides, if the row lets
-- this one in.
abbrev pub given_on : Net → ℕ → End → End → Value → List Value
given_on net row e source taken =
    cond (passes_in net row source taken) (listed (given_for net row e (Some taken))) []

-- What a row gives at an end with flow: by the state alone, or for the items, in their order, of
-- the joint that goes to the end that decides.
abbrev pub given_from : Net → Lists → ℕ → End → Option ℕ → List Value
given_from net lists row e None = listed (given_for net row e None)
given_from net lists row e (Some from) =
    flat_map (given_on net row e (end_of e.primitive from)) (items_at lists (joint_into net (end_of e.primitive from)))

-- What a row gives at a joint.
abbrev pub given_by : Net → Lists → ℕ → ℕ → List Value
given_by net lists j row =
    cond (is_flow (mark_in net row (joint_of net j).giver)) (given_from net lists row (joint_of net j).giver (from_in net row (joint_of net j).giver)) []

-- How many rows of the table of an end's side are no jam row.
abbrev pub plain_rows : Net → End → ℕ
plain_rows net e = (behaviour_at net.primitives e.primitive).rows ((behaviour_at net.primitives e.primitive).side_of e.end) - 1

-- What the rows of its giver's side, in their order, give at a joint.
abbrev pub offered_at : Net → Lists → ℕ → List Value
offered_at net lists j =
    flat_map (given_by net lists j) (range_with_len 0 (plain_rows net (joint_of net j).giver))

-- A list after items came to it in a row: each that is new is added at the back.
pub data IsAdded : List Value → List Value → List Value → Type 0 where
  none : (items : List Value) → IsAdded items [] items
  known : (items rest new : List Value) (item : Value) → Contains items item
      → IsAdded items rest new → IsAdded items (item ∷ rest) new
  fresh : (items rest new : List Value) (item : Value) → (Contains items item → ⊥)
      → IsAdded (items ++ (item ∷ [])) rest new → IsAdded items (item ∷ rest) new

-- The lists after a visit of one joint.
pub record IsVisited (net : Net) (j : ℕ) (old new : Lists) : Type 0 where
  pub items : List Value
  pub added : IsAdded (items_at old j) (offered_at net old j) items
  pub after : new ≡ slice_set old j items

-- The lists after a visit of each of so many joints, in their order.
pub data AreVisited (net : Net) : ℕ → Lists → Lists → Type 0 where
  begun : (lists : Lists) → AreVisited net zero lists lists
  next : (n : ℕ) (old now new : Lists) → AreVisited net n old now → IsVisited net n now new
      → AreVisited net (suc n) old new

-- A pass: a visit of each joint.
abbrev pub IsPass : Net → Lists → Lists → Type 0
IsPass net old new = AreVisited net (length net.joints) old new

-- The lists that passes over the joints come to.
pub data ArePassed (net : Net) : Lists → Type 0 where
  empty : ArePassed net (map (λ _. []) net.joints)
  pass : (old new : Lists) → ArePassed net old → IsPass net old new → ArePassed net new

-- The item lists: passes come to them, and a further pass adds nothing.
pub record AreItemLists (net : Net) (lists : Lists) : Type 0 where
  pub passed : ArePassed net lists
  pub last : IsPass net lists lists
