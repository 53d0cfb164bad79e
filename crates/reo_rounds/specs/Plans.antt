-- Plans of rounds.
use Rattle.std.specs.Prelude.{ℕ, ◌≡◌, List}
use Rattle.std.specs.List.{count_by, range_with_len}
use Rattle.reo_net_base.specs.Colouring.{IsColouring}
use Rattle.reo_net_base.specs.First.{IsFirst}
use Rattle.reo_net_base.specs.Moves.{moves_of}
use Rattle.reo_net_base.specs.Net.{Net}
use Rattle.reo_net_base.specs.Sides.{side_count}
use Rattle.reo_net_laws.specs.Jams.{jams}
use Rattle.reo_trace.specs.Entries.{is_idle, line_for}
use Rattle.reo_rounds.specs.declared.plan.Plan.{Plan}
use Rattle.reo_rounds.specs.declared.plan.PlannedRound.{PlannedRound}
use Rattle.reo_weights.specs.declared.exceeds.Exceeds.{Exceeds}
use Rattle.reo_weights.specs.declared.exceeds.Exceeds.TheVariants as faults
use Rattle.reo_weights.specs.Over.{Cause, IsOver}
use Rattle.reo_weights.specs.Over.Cause.{spent, wide}

-- How many sides have their jam row.
abbrev pub jammed_sides : Net → List ℕ → ℕ
jammed_sides net rows = count_by (jams net rows) (range_with_len 0 (side_count net))

-- The moves of a plan, whether it is idle and how many sides jam, are those of its rows and items.
pub record ShowsItsOwn (net : Net) (ports : ℕ) (plan : Plan) : Type 0 where
  pub moves : plan.moves ≡ moves_of net ports plan.colouring.rows plan.colouring.items
  pub idle : plan.idle ≡ is_idle net plan.colouring.rows
  pub jammed : plan.jammed ≡ jammed_sides net plan.colouring.rows

-- A plan of a round that a circuit can make: its rows and items are a colouring.
pub record Suits (net : Net) (ports : ℕ) (plan : Plan) : Type 0 where
  pub colouring : IsColouring net plan.colouring.rows plan.colouring.items
  pub shows : ShowsItsOwn net ports plan

-- The plan of the round of a number: the first colouring, where no part is over.
pub record IsPlan (budget : ℕ) (net : Net) (ports turn : ℕ) (plan : Plan) : Type 0 where
  pub within : (cause : Cause) → IsOver budget net cause → ⊥
  pub first : IsFirst net turn plan.colouring.rows plan.colouring.items
  pub shows : ShowsItsOwn net ports plan

-- A round that is planned: its plan, and the line that shows it.
pub record IsPlannedRound (budget : ℕ) (net : Net) (ports turn : ℕ) (p : PlannedRound) : Type 0 where
  pub plan : IsPlan budget net ports turn p.plan
  pub line_is : p.line ≡ line_for net turn p.plan.colouring.rows p.plan.moves

-- The round cannot be planned so. `NoMemory` may come at any time.
abbrev pub IsPlanFault : ℕ → Net → Exceeds → Type 0
IsPlanFault budget net (faults.Wide knot) = IsOver budget net (wide knot)
IsPlanFault budget net (faults.Spent knot weight) = IsOver budget net (spent knot weight budget)
IsPlanFault budget net faults.NoMemory = Unit {0}
