-- The order of colourings, restricted to a set of sides.
use Rattle.std.specs.Prelude.{ℕ, ◌<◌, ◌≤◌, ◌≢◌, ◌≡◌, Bool, List, [], ◌∷◌, Option, filter, slice_index, slice_index_or}
use Rattle.std.specs.declared.cmp.Ordering.TheVariants.{Less}
use Rattle.reo_values.specs.declared.value.Value.{Value}
use Rattle.reo_net_base.specs.Sides.{side_count}
use Rattle.reo_net_base.specs.Net.{Net, all_sides, no_side}
use Rattle.reo_net_base.specs.First.{Position, is_leading, positions, order_by}
use Rattle.reo_net_laws.specs.Parts.{IsAssignment}

-- The places of the sides of a set.
abbrev pub within : (ℕ → Bool) → List Position → List Position
within inside ps = filter (λ (p : Position). inside p.side) ps

-- No assignment of the set stands before these rows, by the places of the set's sides.
abbrev pub IsLeastBy : Net → (ℕ → Bool) → List Position → List ℕ → Type 0
IsLeastBy net inside ps rows = (others : List ℕ) (other_items : List (Option Value))
    → IsAssignment net inside others other_items → order_by (within inside ps) others rows ≢ Less

-- No assignment of the set stands before these rows.
abbrev pub IsLeastIn : Net → (ℕ → Bool) → ℕ → List ℕ → Type 0
IsLeastIn net inside turn rows = IsLeastBy net inside (positions net turn) rows

-- The first assignment of a set: no other stands before it.
pub record IsFirstIn (net : Net) (inside : ℕ → Bool) (turn : ℕ) (rows : List ℕ) (items : List (Option Value)) : Type 0 where
  pub assignment : IsAssignment net inside rows items
  pub least : IsLeastIn net inside turn rows

-- The class of a row of a side.
abbrev pub class_of : Net → ℕ → ℕ → ℕ → ℕ
class_of net turn k row = (slice_index_or (all_sides net.primitives) k no_side).of.class (slice_index_or (all_sides net.primitives) k no_side).number row turn

-- The class that a list of rows has at a side.
abbrev pub class_in : Net → ℕ → List ℕ → ℕ → ℕ
class_in net turn rows k = class_of net turn k (slice_index rows k)

-- Whether a side leads.
abbrev pub leads_at : Net → ℕ → Bool
leads_at net k = is_leading (slice_index_or (all_sides net.primitives) k no_side)

-- The places are of the first n sides.
abbrev pub AreInRange : ℕ → List Position → Type 0
AreInRange n [] = Unit {0}
AreInRange n (p ∷ ps) = (p.side < n) × AreInRange n ps

-- Places by which the classes decide: rows of which no class is greater and some class is smaller
-- stand before.
pub record ClassesLead (net : Net) (turn : ℕ) (ps : List Position) : Type 0 where
  pub in_range : AreInRange (side_count net) ps
  pub decided : (x y : List ℕ)
      → ((k : ℕ) → k < side_count net → class_in net turn x k ≤ class_in net turn y k)
      → (k : ℕ) → k < side_count net → class_in net turn x k < class_in net turn y k
      → order_by ps x y ≡ Less

-- Whichever sides lead, the classes decide.
abbrev pub ClassesAlwaysLead : Type 0
ClassesAlwaysLead = (net : Net) (turn : ℕ) → ClassesLead net turn (positions net turn)
