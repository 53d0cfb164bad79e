-- Assignments by values are those by rows and items.
use Rattle.std.specs.Prelude.{ℕ, ◌<◌, ◌≡◌, ◌≢◌, Bool, true, Option, Some, None, IsSome, List, length, slice_index, slice_index_or}
use Rattle.std.specs.declared.cmp.Ordering.TheVariants.{Less}
use Rattle.reo_values.specs.declared.value.Value.{Value}
use Rattle.reo_net_base.specs.declared.mark.Mark.TheVariants.{F}
use Rattle.reo_net_base.specs.Net.{Net}
use Rattle.reo_net_base.specs.Sides.{side_count}
use Rattle.reo_net_base.specs.First.{positions, order_by}
use Rattle.reo_net_base.specs.Wired.{IsWired, IsOrder}
use Rattle.reo_net_laws.specs.Parts.{IsClosed, IsAssignment}
use Rattle.reo_net_laws.specs.Keys.{within, IsFirstIn}
use Rattle.reo_joint_values.specs.declared.value.JointValue.{JointValue}
use Rattle.reo_joint_values.specs.Values.{giver_mark, Names, Choice, Family, item_named, items_of, giver_side}
use Rattle.reo_joint_values.specs.Chosen.{IsChosen, rows_of}

-- Where no joint leads out of a set and the joints have an order, each assignment by values is one
-- by rows and items. Where a value flows, its number is that of an item, since some state gives it.
abbrev pub ChoicesAreAssignments : Type 0
ChoicesAreAssignments = (net : Net) → IsWired net → (order : List ℕ) → IsOrder net order
    → (names : Names) (inside : ℕ → Bool) (sets : Family) → IsClosed net inside
    → (rows : ℕ → ℕ) (choice : Choice) → IsChosen net names inside sets rows choice
    → IsAssignment net inside (rows_of net rows) (items_of net names choice)

-- A set of sides of the circuit.
abbrev pub AreSides : Net → (ℕ → Bool) → Type 0
AreSides net inside = (side : ℕ) → inside side ≡ true → side < side_count net

-- Each item at a joint of a set has a number there.
abbrev pub AreNamed : Net → Names → (ℕ → Bool) → List (Option Value) → Type 0
AreNamed net names inside items = (j : ℕ) (item : Value) → j < length net.joints
    → inside (giver_side net j) ≡ true → slice_index_or items j None ≡ Some item
    → (n : ℕ) × (names j n ≡ Some item)

-- A value that flows has the number of an item.
abbrev pub IsNamed : Names → ℕ → JointValue → Type 0
IsNamed names j v = giver_mark v ≡ F → IsSome (item_named names j v)

-- At the joints of a set of sides a family has each value whose number is that of an item.
abbrev pub HasNamed : Net → Names → (ℕ → Bool) → Family → Type 0
HasNamed net names inside sets = (j : ℕ) (v : JointValue) → j < length net.joints
    → inside (giver_side net j) ≡ true → IsNamed names j v → sets j v ≡ true

-- An assignment by values with these rows and items.
pub record HasChoice (net : Net) (names : Names) (inside : ℕ → Bool) (sets : Family)
    (rows : List ℕ) (items : List (Option Value)) : Type 0 where
  pub choice : Choice
  pub chosen : IsChosen net names inside sets (λ side. slice_index rows side) choice
  pub items_are : (j : ℕ) → j < length net.joints → inside (giver_side net j) ≡ true
      → item_named names j (choice j) ≡ slice_index_or items j None

-- Where no joint leads out of a set of sides, each assignment by rows and items whose items have
-- numbers is one by values.
abbrev pub AssignmentsAreChoices : Type 0
AssignmentsAreChoices = (net : Net) → IsWired net → (names : Names) (inside : ℕ → Bool)
    (sets : Family) → IsClosed net inside → AreSides net inside → HasNamed net names inside sets
    → (rows : List ℕ) (items : List (Option Value)) → IsAssignment net inside rows items
    → AreNamed net names inside items → HasChoice net names inside sets rows items

-- An assignment by values that no other one stands before.
pub record IsFirstChosen (net : Net) (names : Names) (inside : ℕ → Bool) (turn : ℕ)
    (sets : Family) (rows : ℕ → ℕ) (choice : Choice) : Type 0 where
  pub chosen : IsChosen net names inside sets rows choice
  pub least : (others : ℕ → ℕ) (other_choice : Choice)
      → IsChosen net names inside sets others other_choice
      → order_by (within inside (positions net turn)) (rows_of net others) (rows_of net rows)
      ≢ Less

-- Where each item that stands at a joint of the set in some assignment has a number, the first
-- assignment by values is the first by rows and items.
abbrev pub FirstByValues : Type 0
FirstByValues = (net : Net) → IsWired net → (order : List ℕ) → IsOrder net order
    → (names : Names) (inside : ℕ → Bool) (sets : Family)
    → IsClosed net inside → AreSides net inside → HasNamed net names inside sets
    → ((rows : List ℕ) (items : List (Option Value)) → IsAssignment net inside rows items
    → AreNamed net names inside items)
    → (turn : ℕ) (rows : ℕ → ℕ) (choice : Choice)
    → IsFirstChosen net names inside turn sets rows choice
    → IsFirstIn net inside turn (rows_of net rows) (items_of net names choice)
