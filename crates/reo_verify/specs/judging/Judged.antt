-- What the judgement of a line answers.
use Rattle.std.specs.Prelude.{ℕ, ◌≡◌, List}
use Rattle.reo_net_base.specs.declared.colouring.Colouring.{Colouring}
use Rattle.reo_net_base.specs.Net.{Net}
use Rattle.reo_net_base.specs.Colouring.{IsColouring}
use Rattle.reo_trace.specs.declared.line.Entry.{Entry}
use Rattle.reo_trace.specs.declared.line.RoundLine.{RoundLine}
use Rattle.reo_trace.specs.Entries.{line_for}
use Rattle.reo_rounds.specs.declared.plan.Plan.{Plan}
use Rattle.reo_rounds.specs.Plans.{Suits}
use Rattle.reo_runs.specs.verdicts.Said.{AreSaid}
use Rattle.reo_runs.specs.verdicts.Wrongs.{IsWrongWith, HasWrongMoves}
use Rattle.reo_verify.specs.declared.judging.judging.Stop.{Stop}
use Rattle.reo_verify.specs.declared.judging.judging.Stop.TheVariants as stops

-- Why entries say no colouring.
abbrev pub IsStopBy : Net → List Entry → Stop → Type 0
IsStopBy net entries (stops.Wrong wrong) = IsWrongWith net entries wrong
IsStopBy net entries stops.Moves = ⊥
IsStopBy net entries stops.NoMemory = Unit {0}

-- A colouring of the rows that entries say.
pub record IsColouringSaid (net : Net) (entries : List Entry) (colouring : Colouring) : Type 0 where
  pub said : AreSaid net entries colouring.rows
  pub is_colouring : IsColouring net colouring.rows colouring.items

-- A plan of a round that the line shows.
pub record IsPlanShown (net : Net) (ports : ℕ) (line : RoundLine) (plan : Plan) : Type 0 where
  pub suits : Suits net ports plan
  pub shown : line ≡ line_for net line.round plan.colouring.rows plan.moves

-- Why a line shows no plan.
abbrev pub IsLineStop : Net → ℕ → RoundLine → Stop → Type 0
IsLineStop net ports line (stops.Wrong wrong) = IsWrongWith net line.entries wrong
IsLineStop net ports line stops.Moves = HasWrongMoves net ports line.round line
IsLineStop net ports line stops.NoMemory = Unit {0}
