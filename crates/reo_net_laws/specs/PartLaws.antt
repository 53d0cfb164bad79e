-- Laws on colourings and closed sets.
use Rattle.std.specs.Prelude.{ℕ, ◌≡◌, ◌==◌, ◌↔◌, Bool, List, Option}
use Rattle.reo_values.specs.declared.value.Value.{Value}
use Rattle.reo_net_base.specs.Net.{Net}
use Rattle.reo_net_base.specs.Colouring.{IsColouring}
use Rattle.reo_net_base.specs.Wired.{IsWired, IsOrder}
use Rattle.reo_net_laws.specs.Parts.{IsClosed, IsAssignment, outside, mixed, mixed_items}

-- Where the joints have an order, two colourings with the same rows have the same items.
abbrev pub OneColouringForRows : Type 0
OneColouringForRows = (net : Net) → IsWired net → (order : List ℕ) → IsOrder net order
    → (rows : List ℕ) (xs ys : List (Option Value))
    → IsColouring net rows xs → IsColouring net rows ys → xs ≡ ys

-- Rows and items that are an assignment of a set and of its outside are a colouring.
abbrev pub PartsAreColouring : Type 0
PartsAreColouring = (net : Net) (inside : ℕ → Bool) (rows : List ℕ) (items : List (Option Value))
    → IsAssignment net inside rows items → IsAssignment net (outside inside) rows items
    → IsColouring net rows items

-- One assignment of a closed set and another of its outside mix to a colouring.
abbrev pub MixIsColouring : Type 0
MixIsColouring = (net : Net) → IsWired net → (inside : ℕ → Bool) → IsClosed net inside
    → (a b : List ℕ) (xs ys : List (Option Value))
    → IsAssignment net inside a xs → IsAssignment net (outside inside) b ys
    → IsColouring net (mixed inside a b) (mixed_items net inside net.joints xs ys)

-- Where each side has the number of its part, rows and items are a colouring exactly where they
-- are an assignment of each part.
abbrev pub EachPart : Type 0
EachPart = (net : Net) (part : ℕ → ℕ) (rows : List ℕ) (items : List (Option Value))
    → ((k : ℕ) → IsAssignment net (λ s. part s == k) rows items) ↔ IsColouring net rows items
