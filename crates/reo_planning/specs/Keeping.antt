-- What is kept of the parts of a circuit.
use Rattle.std.specs.Prelude.{ℕ, ◌<◌, ◌≤◌, ◌≡◌, Bool, true, false, not, ◌&&◌, List, length, nat_le, replicate, slice_index_or}
use Rattle.reo_net_base.specs.declared.joint.End.{End}
use Rattle.reo_net_base.specs.declared.mark.Mark.TheVariants.{F}
use Rattle.reo_net_base.specs.Net.{Net, side_at, mark_at}
use Rattle.reo_net_base.specs.Sides.{side_count}
use Rattle.reo_net_base.specs.Wired.{IsEnd}
use Rattle.reo_net_laws.specs.Knots.{Knotted, in_knot, knot_count}
use Rattle.reo_weights.specs.still.Joining.{HasFirst}
use Rattle.reo_weights.specs.still.Still.{IsStill}
use Rattle.reo_weights.specs.Over.{IsWithin}
use Rattle.reo_planning.specs.declared.kept.Kept.{Kept}

-- Whether a part is settled: its rows are kept.
abbrev pub is_settled : Kept → ℕ → Bool
is_settled kept k = slice_index_or kept.settled k false

-- Whether a part is to be looked at: it is not settled.
abbrev pub is_open : Kept → ℕ → Bool
is_open kept k = not (is_settled kept k)

-- Whether something flows in a part by the rows that are kept.
abbrev pub is_moving : Kept → ℕ → Bool
is_moving kept k = slice_index_or kept.moving k true

-- Whether the rows that are kept of a part serve for a budget.
abbrev pub serves : Kept → ℕ → ℕ → Bool
serves kept budget k = nat_le kept.budget budget && is_settled kept k

-- The rows that are kept of so many parts, all of them, serve for a budget.
abbrev pub AllServe : ℕ → ℕ → Kept → Type 0
AllServe count budget kept = (k : ℕ) → k < count → serves kept budget k ≡ true

-- The part is the least from another on of which the rows that are kept do not serve for a budget,
-- or the number of parts if there is none.
pub record IsNextUnserved (budget from : ℕ) (kept : Kept) (part : ℕ) : Type 0 where
  pub from_on : from ≤ part
  pub in_range : part ≤ length kept.settled
  pub none_before : (k : ℕ) → from ≤ k → k < part → serves kept budget k ≡ true
  pub here : part < length kept.settled → serves kept budget part ≡ false

-- Some end of a set of sides flows.
pub record FlowsIn (net : Net) (inside : ℕ → Bool) (rows : List ℕ) : Type 0 where
  pub end : End
  pub is_end : IsEnd net.primitives end
  pub here : inside (side_at net end) ≡ true
  pub flows : mark_at net rows end ≡ F

-- A part is within a budget, rows there are those of its first assignment, and something flows in
-- it exactly where it moves.
pub record IsKnown (budget : ℕ) (net : Net) (knots : Knotted) (turn : ℕ) (rows : List ℕ)
    (moves : Bool) (k : ℕ) : Type 0 where
  pub within : IsWithin budget net (in_knot knots.numbers k)
  pub first : HasFirst net knots.numbers turn rows k
  pub still : moves ≡ false → IsStill net (in_knot knots.numbers k) rows
  pub flows : moves ≡ true → FlowsIn net (in_knot knots.numbers k) rows

-- A row for each of so many sides, and two marks for each of so many parts.
pub record HasSizes (sides parts : ℕ) (kept : Kept) : Type 0 where
  pub one_row : length kept.rows ≡ sides
  pub one_each : length kept.settled ≡ parts
  pub one_mark : length kept.moving ≡ parts

-- What is kept is right in the round of a number: each part that is settled is known.
pub record IsKept (net : Net) (knots : Knotted) (turn : ℕ) (kept : Kept) : Type 0 where
  pub sizes : HasSizes (side_count net) (knot_count knots) kept
  pub known : (k : ℕ) → k < knot_count knots → is_settled kept k ≡ true
      → IsKnown kept.budget net knots turn kept.rows (is_moving kept k) k

-- No part is settled.
pub record IsFresh (sides parts : ℕ) (kept : Kept) : Type 0 where
  pub sizes : HasSizes sides parts kept
  pub none : kept.settled ≡ replicate parts false
