-- Rounds that are made.
use Rattle.std.specs.Prelude.{ℕ, ◌≡◌, ◌≤◌, ◌^◌, Some, length}
use Rattle.reo_rounds.specs.Plans.{IsPlanFault}
use Rattle.reo_rounds.specs.declared.plan.Done.{Done}
use Rattle.reo_weights.specs.declared.exceeds.Exceeds.{Exceeds}
use Rattle.reo_weights.specs.declared.exceeds.Exceeds.TheVariants as faults
use Rattle.reo_connector.specs.Held.{net_in}
use Rattle.reo_connector.specs.Rounds.{IsMade}
use Rattle.reo_handles.specs.declared.rounds.Round.{Round}
use Rattle.reo_handles.specs.declared.session.Session.{Session}
use Rattle.reo_handles.specs.declared.status.CallStatus.{CallStatus}
use Rattle.reo_handles.specs.declared.status.CallStatus.TheVariants as statuses

-- What is told of a round.
abbrev pub summary : ℕ → Done → Round
summary number done = record { number = number; moves = length done.moves; jammed = done.jammed; idle = done.idle }

-- What a round that cannot be planned answers.
abbrev pub refused : Exceeds → CallStatus
refused (faults.Wide knot) = statuses.Wide
refused (faults.Spent knot weight) = statuses.Spent
refused faults.NoMemory = statuses.NoMemory

-- The round that comes next was made, is kept, and was told.
pub record IsRound (budget : ℕ) (round : Round) (s t : Session) : Type 0 where
  pub done : Done
  pub made : IsMade budget s.connector t.connector done
  pub kept : t.done ≡ Some done
  pub told : round ≡ summary t.connector.rounds done

-- No round was made, and nothing changed.
pub record IsNoRound (old new : Round) (s t : Session) : Type 0 where
  pub same : t ≡ s
  pub untold : new ≡ old

-- What making a round does.
abbrev pub Rounds : ℕ → Round → Round → Session → Session → CallStatus → Type 0
Rounds budget old new s t statuses.Done = IsRound budget new s t
Rounds budget old new s t statuses.Wide = (knot : ℕ) × IsPlanFault budget (net_in s.connector) (faults.Wide knot) × IsNoRound old new s t
Rounds budget old new s t statuses.Spent = (knot : ℕ) × (weight : ℕ) × IsPlanFault budget (net_in s.connector) (faults.Spent knot weight) × IsNoRound old new s t
Rounds budget old new s t statuses.LargeBudget = (10 ^ 18 ≤ budget) × IsNoRound old new s t
Rounds budget old new s t statuses.NoRound = (2 ^ 63 ≤ s.connector.rounds) × IsNoRound old new s t
Rounds budget old new s t statuses.NoMemory = IsNoRound old new s t
Rounds budget old new s t _ = ⊥
