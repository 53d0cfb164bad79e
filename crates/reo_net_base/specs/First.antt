-- The order of colourings, and the first one.
use Rattle.std.specs.Prelude.{ℕ, suc, ◌≢◌, Bool, cond, List, [], ◌∷◌, ◌++◌, Option, slice_index}
use Rattle.std.specs.declared.cmp.Ordering.{Ordering}
use Rattle.std.specs.declared.cmp.Ordering.TheVariants.{Less}
use Rattle.std.specs.Ordering.{nat_cmp}
use Rattle.std.specs.Cmp.Lexicographic.{slice_cmp}
use Rattle.reo_values.specs.declared.value.Value.{Value}
use Rattle.reo_net_base.specs.Net.{Net, Side, all_sides}
use Rattle.reo_net_base.specs.Colouring.{IsColouring}

-- A place of a key: a side, and the number that its row puts there.
pub record Position : Type 0 where
  pub side : ℕ
  pub number : ℕ → ℕ

-- The numbers that a list of rows puts at some places.
abbrev pub key_at : List Position → List ℕ → List ℕ
key_at [] rows = []
key_at (p ∷ ps) rows = p.number (slice_index rows p.side) ∷ key_at ps rows

-- Whether the class of a side is compared before those of all sides.
abbrev pub is_leading : Side → Bool
is_leading s = s.of.leads s.number

-- The place of the class of a side with this number.
abbrev pub class_position : ℕ → Side → ℕ → Position
class_position turn s k = record { side = k; number = λ row. s.of.class s.number row turn }

-- The places of the classes of those of these sides that lead. The first of these sides has this
-- number.
abbrev pub leading_positions : ℕ → List Side → ℕ → List Position
leading_positions turn [] k = []
leading_positions turn (s ∷ ss) k =
    cond (is_leading s) (class_position turn s k ∷ leading_positions turn ss (suc k))
    (leading_positions turn ss (suc k))

-- The places of the classes of these sides, the first of which has this number.
abbrev pub class_positions : ℕ → List Side → ℕ → List Position
class_positions turn [] k = []
class_positions turn (s ∷ ss) k = class_position turn s k ∷ class_positions turn ss (suc k)

-- The places of the rows of these sides, the first of which has this number.
abbrev pub row_positions : List Side → ℕ → List Position
row_positions [] k = []
row_positions (s ∷ ss) k = record { side = k; number = λ row. row } ∷ row_positions ss (suc k)

-- What colourings are compared by, each in the order of the sides: the classes of the sides that
-- lead, then the classes of all sides, and then the rows of all sides.
abbrev pub positions : Net → ℕ → List Position
positions net turn =
    leading_positions turn (all_sides net.primitives) 0
    ++ (class_positions turn (all_sides net.primitives) 0 ++ row_positions (all_sides net.primitives) 0)

-- The order of two lists of rows by some places: the first difference decides.
abbrev pub order_by : List Position → List ℕ → List ℕ → Ordering
order_by ps a b = slice_cmp nat_cmp (key_at ps a) (key_at ps b)

-- The order of colourings in the round of this number.
abbrev pub order_of : Net → ℕ → List ℕ → List ℕ → Ordering
order_of net turn a b = order_by (positions net turn) a b

-- The first colouring: no other stands before it.
pub record IsFirst (net : Net) (turn : ℕ) (rows : List ℕ) (items : List (Option Value)) : Type 0 where
  pub colouring : IsColouring net rows items
  pub least : (others : List ℕ) (other_items : List (Option Value))
      → IsColouring net others other_items → order_of net turn others rows ≢ Less
