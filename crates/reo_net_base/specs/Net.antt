-- A circuit in its present state, as mathematics.
use Rattle.std.specs.Prelude.{ℕ, ◌+◌, ◌==◌, ◌&&◌, ◌||◌, Bool, List, length, map, take, slice_index, slice_index_or}
use Rattle.std.specs.List.{flat_map, range_with_len}
use Rattle.reo_net_base.specs.declared.mark.Mark.{Mark}
use Rattle.reo_net_base.specs.declared.joint.End.{End}
use Rattle.reo_net_base.specs.declared.joint.Joint.{Joint}
use Rattle.reo_net_base.specs.Behaviour.{Behaviour, nothing}

-- Primitives in their present states, and the joints between their ends.
pub record Net : Type 0 where
  pub primitives : List Behaviour
  pub joints : List Joint

-- What a circuit is made of: primitives, of which the first so many are ports, and joints.
pub record Wiring (P : Type 0) : Type 0 where
  pub primitives : List P
  pub ports : ℕ
  pub joints : List Joint

-- The mathematics of a circuit.
abbrev pub net_of : {P : Type 0} → (P → Behaviour) → Wiring P → Net
net_of behaviour w = record { primitives = map behaviour w.primitives; joints = w.joints }

abbrev pub behaviour_at : List Behaviour → ℕ → Behaviour
behaviour_at bs i = slice_index_or bs i nothing

-- One side of one primitive.
pub record Side : Type 0 where
  pub of : Behaviour
  pub number : ℕ

abbrev pub no_side : Side
no_side = record { of = nothing; number = 0 }

abbrev pub sides_of : Behaviour → List Side
sides_of b = map (λ s. record { of = b; number = s }) (range_with_len 0 b.sides)

-- All sides, in the order of the primitives.
abbrev pub all_sides : List Behaviour → List Side
all_sides bs = flat_map sides_of bs

-- How many sides stand before those of a primitive.
abbrev pub first_side : List Behaviour → ℕ → ℕ
first_side bs i = length (flat_map sides_of (take i bs))

-- How many rows the table of a side has.
abbrev pub row_count : Side → ℕ
row_count s = s.of.rows s.number

abbrev pub end_of : ℕ → ℕ → End
end_of primitive end = record { primitive = primitive; end = end }

abbrev pub end_eq : End → End → Bool
end_eq a b = (a.primitive == b.primitive) && (a.end == b.end)

-- Whether a joint is at an end.
abbrev pub is_at : End → Joint → Bool
is_at e j = end_eq j.giver e || end_eq j.taker e

-- The number of the side of an end among all sides.
unfoldable pub side_at : Net → End → ℕ
side_at net e = first_side net.primitives e.primitive + (behaviour_at net.primitives e.primitive).side_of e.end

-- The side of an end.
abbrev pub side_of_end : Net → End → Side
side_of_end net e = record { of = behaviour_at net.primitives e.primitive; number = (behaviour_at net.primitives e.primitive).side_of e.end }

-- The row of the side of an end.
unfoldable pub row_at : Net → List ℕ → End → ℕ
row_at net rows e = slice_index rows (side_at net e)

-- The mark of an end.
unfoldable pub mark_at : Net → List ℕ → End → Mark
mark_at net rows e = (behaviour_at net.primitives e.primitive).mark ((behaviour_at net.primitives e.primitive).side_of e.end) (row_at net rows e) e.end

-- The sides that the joints come from.
abbrev pub from_sides : Net → List ℕ
from_sides net = map (λ j. side_at net j.giver) net.joints

-- The sides that the joints go to.
abbrev pub to_sides : Net → List ℕ
to_sides net = map (λ j. side_at net j.taker) net.joints
