-- Laws on the first colouring.
use Rattle.std.specs.Prelude.{ℕ, ◌≡◌, ◌<◌, ◌==◌, ◌↔◌, Bool, true, false, List, Option, None, length, slice_index, slice_index_or}
use Rattle.reo_values.specs.declared.value.Value.{Value}
use Rattle.reo_net_base.specs.declared.mark.Mark.TheVariants.{F}
use Rattle.reo_net_base.specs.declared.joint.End.{End}
use Rattle.reo_net_base.specs.declared.joint.Joint.{Joint}
use Rattle.reo_net_base.specs.Sides.{side_count}
use Rattle.reo_net_base.specs.Net.{Net, mark_at}
use Rattle.reo_net_base.specs.Colouring.{IsColouring}
use Rattle.reo_net_base.specs.First.{IsFirst}
use Rattle.reo_net_base.specs.Wired.{IsWired, IsEnd, IsOrder}
use Rattle.reo_net_laws.specs.Parts.{IsClosed, IsKnot, is_joint_inside}
use Rattle.reo_net_laws.specs.Keys.{IsLeastIn, IsFirstIn}
use Rattle.reo_net_laws.specs.Jams.{jams, IsThreeColouring}

-- Rows and items of two lists are the same on a set.
pub record AreSameIn (net : Net) (inside : ℕ → Bool) (a b : List ℕ) (xs ys : List (Option Value)) : Type 0 where
  pub rows : (k : ℕ) → k < side_count net → inside k ≡ true → slice_index a k ≡ slice_index b k
  pub items : (j : ℕ) (d : Joint) → j < length net.joints
      → is_joint_inside net inside (slice_index_or net.joints j d) ≡ true
      → slice_index_or xs j None ≡ slice_index_or ys j None

-- Where the joints have an order, two first assignments of a closed set have the same rows and
-- items there.
abbrev pub FirstIsOneInside : Type 0
FirstIsOneInside = (net : Net) → IsWired net → (order : List ℕ) → IsOrder net order
    → (inside : ℕ → Bool) → IsClosed net inside
    → (turn : ℕ) (a b : List ℕ) (xs ys : List (Option Value))
    → IsFirstIn net inside turn a xs → IsFirstIn net inside turn b ys
    → AreSameIn net inside a b xs ys

-- Where the joints have an order, two first colourings have the same rows and the same items.
abbrev pub FirstIsOne : Type 0
FirstIsOne = (net : Net) → IsWired net → (order : List ℕ) → IsOrder net order
    → (turn : ℕ) (a b : List ℕ) (xs ys : List (Option Value))
    → IsFirst net turn a xs → IsFirst net turn b ys → (a ≡ b) × (xs ≡ ys)

-- Where the joints have an order, there is a first colouring.
abbrev pub FirstExists : Type 0
FirstExists = (net : Net) → IsWired net → (order : List ℕ) → IsOrder net order → (turn : ℕ)
    → (rows : List ℕ) × (items : List (Option Value)) × IsFirst net turn rows items

-- On each closed set the first colouring is the first assignment.
abbrev pub FirstInside : Type 0
FirstInside = (net : Net) → IsWired net → (turn : ℕ) (rows : List ℕ) (items : List (Option Value))
    → IsFirst net turn rows items
    → (inside : ℕ → Bool) → IsClosed net inside → IsFirstIn net inside turn rows items

-- Where each side has the number of its part, a colouring that is least on each part is the first.
abbrev pub FirstByParts : Type 0
FirstByParts = (net : Net) → IsWired net
    → (turn : ℕ) (part : ℕ → ℕ) (rows : List ℕ) (items : List (Option Value))
    → IsColouring net rows items
    → ((s : ℕ) → s < side_count net → IsLeastIn net (λ t. part t == part s) turn rows)
    → IsFirst net turn rows items

-- Some end flows.
pub record Flows (net : Net) (rows : List ℕ) : Type 0 where
  pub end : End
  pub is_end : IsEnd net.primitives end
  pub flows : mark_at net rows end ≡ F

-- Each end that flows by the one list of rows flows by the other.
abbrev pub FlowsToo : Net → List ℕ → List ℕ → Type 0
FlowsToo net rows others = (e : End) → IsEnd net.primitives e → mark_at net rows e ≡ F
    → mark_at net others e ≡ F

-- If any colouring flows, the first flows.
abbrev pub FirstFlows : Type 0
FirstFlows = (net : Net) → IsWired net → (turn : ℕ) (rows : List ℕ) (items : List (Option Value))
    → IsFirst net turn rows items
    → (others : List ℕ) (other_items : List (Option Value)) → IsColouring net others other_items
    → Flows net others → Flows net rows

-- A colouring that flows wherever the first flows, flows nowhere else.
abbrev pub NoneFlowsMore : Type 0
NoneFlowsMore = (net : Net) → IsWired net → (turn : ℕ) (rows : List ℕ) (items : List (Option Value))
    → IsFirst net turn rows items
    → (others : List ℕ) (other_items : List (Option Value)) → IsColouring net others other_items
    → FlowsToo net rows others → FlowsToo net others rows

-- The first colouring jams no side of a closed set that has a three-colouring.
abbrev pub FirstJamsForCause : Type 0
FirstJamsForCause = (net : Net) → IsWired net
    → (turn : ℕ) (rows : List ℕ) (items : List (Option Value)) → IsFirst net turn rows items
    → (inside : ℕ → Bool) → IsClosed net inside
    → (others : List ℕ) (other_items : List (Option Value))
    → IsThreeColouring net inside others other_items
    → (k : ℕ) → k < side_count net → inside k ≡ true → jams net rows k ≡ false

-- The first assignment of a closed set that has a three-colouring jams none of its sides.
abbrev pub PartJamsForCause : Type 0
PartJamsForCause = (net : Net) → IsWired net → (inside : ℕ → Bool) → IsClosed net inside
    → (turn : ℕ) (rows : List ℕ) (items : List (Option Value))
    → IsFirstIn net inside turn rows items
    → (others : List ℕ) (other_items : List (Option Value))
    → IsThreeColouring net inside others other_items
    → (k : ℕ) → k < side_count net → inside k ≡ true → jams net rows k ≡ false

-- The first assignment of a knot jams each of its sides exactly where the knot has no three-
-- colouring.
abbrev pub KnotJamsExactly : Type 0
KnotJamsExactly = (net : Net) → IsWired net → (inside : ℕ → Bool) → IsKnot net inside
    → (turn : ℕ) (rows : List ℕ) (items : List (Option Value))
    → IsFirstIn net inside turn rows items
    → (k : ℕ) → k < side_count net → inside k ≡ true
    → (jams net rows k ≡ true) ↔ ((others : List ℕ) (other_items : List (Option Value)) → IsThreeColouring net inside others other_items → ⊥)
