-- Sets of sides out of which no joint leads, and what colours them.
use Rattle.std.specs.Prelude.{ℕ, suc, ◌<◌, ◌≡◌, Bool, true, not, cond, List, [], ◌∷◌, Option, None, length, slice_index, slice_index_or}
use Rattle.reo_values.specs.declared.value.Value.{Value}
use Rattle.reo_net_base.specs.declared.joint.Joint.{Joint}
use Rattle.reo_net_base.specs.Sides.{side_count}
use Rattle.reo_net_base.specs.Net.{Net, Side, all_sides, row_count, side_at}
use Rattle.reo_net_base.specs.Colouring.{JointMatches, ItemFits}

-- A set of sides, given by a test of their numbers, out of which none of the first n joints leads.
pub record IsClosedBelow (net : Net) (n : ℕ) (inside : ℕ → Bool) : Type 0 where
  pub along : (j : ℕ) (d : Joint) → j < n
      → inside (side_at net (slice_index_or net.joints j d).giver) ≡ inside (side_at net (slice_index_or net.joints j d).taker)

-- A set of sides out of which no joint leads.
abbrev pub IsClosed : Net → (ℕ → Bool) → Type 0
IsClosed net inside = IsClosedBelow net (length net.joints) inside

-- The first n joints link two sides: each set out of which none of them leads has both sides or
-- neither.
abbrev pub IsLinked : Net → ℕ → ℕ → ℕ → Type 0
IsLinked net n s t = (inside : ℕ → Bool) → IsClosedBelow net n inside → inside s ≡ inside t

-- Two sides of one knot: joints link them.
abbrev pub SameKnot : Net → ℕ → ℕ → Type 0
SameKnot net s t = IsLinked net (length net.joints) s t

-- Sides, at least one, that are joined to each other and to no other side.
pub record IsKnot (net : Net) (inside : ℕ → Bool) : Type 0 where
  pub some : (s : ℕ) × (s < side_count net) × (inside s ≡ true)
  pub closed : IsClosed net inside
  pub joined : (s t : ℕ) → inside s ≡ true → inside t ≡ true → SameKnot net s t

-- Whether the giver's side of a joint is in a set.
abbrev pub is_joint_inside : Net → (ℕ → Bool) → Joint → Bool
is_joint_inside net inside joint = inside (side_at net joint.giver)

-- Rows and items that are as in a colouring at the sides of a set and at the joints that start
-- there. Elsewhere they are any.
pub record IsAssignment (net : Net) (inside : ℕ → Bool) (rows : List ℕ) (items : List (Option Value)) : Type 0 where
  pub one_row : length rows ≡ side_count net
  pub one_item : length items ≡ length net.joints
  pub in_tables : (k : ℕ) (d : Side) → k < side_count net → inside k ≡ true
      → slice_index rows k < row_count (slice_index_or (all_sides net.primitives) k d)
  pub matched : (j : ℕ) (d : Joint) → j < length net.joints
      → is_joint_inside net inside (slice_index_or net.joints j d) ≡ true
      → JointMatches net rows (slice_index_or net.joints j d)
  pub items_fit : (j : ℕ) (d : Joint) → j < length net.joints
      → is_joint_inside net inside (slice_index_or net.joints j d) ≡ true
      → ItemFits net rows items (slice_index_or net.joints j d) (slice_index_or items j None)

-- The sides that are not in a set.
abbrev pub outside : (ℕ → Bool) → ℕ → Bool
outside inside k = not (inside k)

-- The elements of one list where a test of their numbers holds, and those of another list
-- elsewhere.
abbrev pub mixed : {A : Type 0} → (ℕ → Bool) → List A → List A → List A
mixed inside [] ys = []
mixed inside (x ∷ xs) [] = []
mixed inside (x ∷ xs) (y ∷ ys) = cond (inside 0) x y ∷ mixed (λ k. inside (suc k)) xs ys

-- The items of one list at the joints of a set, and those of another list elsewhere.
abbrev pub mixed_items : Net → (ℕ → Bool) → List Joint → List (Option Value) → List (Option Value)
    → List (Option Value)
mixed_items net inside [] xs ys = []
mixed_items net inside (j ∷ js) [] ys = []
mixed_items net inside (j ∷ js) (x ∷ xs) [] = []
mixed_items net inside (j ∷ js) (x ∷ xs) (y ∷ ys) = cond (is_joint_inside net inside j) x y ∷ mixed_items net inside js xs ys
