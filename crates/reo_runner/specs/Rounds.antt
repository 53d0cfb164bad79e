-- A round that was made, and why one was not.
use Rattle.std.specs.Prelude.{ℕ, ◌+◌, ◌*◌, ◌^◌, ◌≤◌, ◌≡◌, Option, List}
use Rattle.std.specs.List.{count_by}
use Rattle.reo_io.specs.Sinks.{Appended, TookPart}
use Rattle.reo_net_base.specs.declared.colouring.Move.{Move}
use Rattle.reo_net_base.specs.declared.port.Port.{Port}
use Rattle.reo_net_base.specs.Net.{Net, Wiring}
use Rattle.reo_players.specs.Players.{Player}
use Rattle.reo_trace.specs.declared.line.RoundLine.{RoundLine}
use Rattle.reo_trace.specs.RoundText.{round_text}
use Rattle.reo_weights.specs.declared.exceeds.Exceeds.{Exceeds}
use Rattle.reo_weights.specs.declared.exceeds.Exceeds.TheVariants as plans
use Rattle.reo_rounds.specs.Rules.{Rules}
use Rattle.reo_weights.specs.Over.{IsOver}
use Rattle.reo_weights.specs.Over.Cause.{spent, wide}
use Rattle.reo_runs.specs.Round.{State, RoundOf, net_ready}
use Rattle.reo_runs.specs.Run.{firsts, over_after}
use Rattle.reo_runs.specs.Written.{goes, is_in, is_out}
use Rattle.reo_runs.specs.at_ports.Pending.{IsButForOffers}
use Rattle.reo_runner.specs.declared.outcome.Tally.{Tally}
use Rattle.reo_runner.specs.declared.round.Played.{Played}
use Rattle.reo_runner.specs.declared.planning.RoundFault.{RoundFault}
use Rattle.reo_runner.specs.declared.planning.RoundFault.TheVariants as faults

-- Why a round is not planned. `NoMemory` may come at any time.
abbrev pub IsUnplanned : ℕ → Net → RoundFault → Type 0
IsUnplanned budget net (faults.Spent knot weight) = IsOver budget net (spent knot weight budget)
IsUnplanned budget net (faults.Wide knot) = IsOver budget net (wide knot)
IsUnplanned budget net faults.Failed = ⊥
IsUnplanned budget net faults.NoMemory = Unit {0}

-- Why a round is not made, by why it is not planned.
abbrev pub fault_of_plan : Exceeds → RoundFault
fault_of_plan (plans.Wide knot) = faults.Wide knot
fault_of_plan (plans.Spent knot weight) = faults.Spent knot weight
fault_of_plan plans.NoMemory = faults.NoMemory

-- The numbers after one round more, in which these moved.
pub record IsTallied (ports : List Port) (moves : List Move) (old new : Tally) : Type 0 where
  pub rounds : new.rounds ≡ old.rounds + 1
  pub written : new.written ≡ old.written + count_by (goes is_in ports) moves
  pub delivered : new.delivered ≡ old.delivered + count_by (goes is_out ports) moves

-- Numbers that are small after so many rounds.
pub record IsSmall (t : Tally) : Type 0 where
  pub rounds : t.rounds ≤ 10 ^ 9
  pub written : t.written ≤ t.rounds * 2 ^ 31
  pub delivered : t.delivered ≤ t.rounds * 2 ^ 31

module _ {P : Type 0} (r : Rules P) (ports : List Port) (budget limit turn : ℕ) (a : State P) where
  -- A round of a run was made and its line written, and the circuit and the components are as it left them, but for offers.
  pub record PlayedRound (before now : Option (List ℕ)) (old : Tally) (w : Wiring P) (players : List Player) (made : Played) : Type 0 where
    pub line : RoundLine
    pub next : State P
    pub round : RoundOf (firsts budget limit) r turn a line next
    pub text : Appended before now (round_text ports line)
    pub tallied : IsTallied ports line.moves old made.tally
    pub over : made.over ≡ over_after turn line.idle a.players next.players
    pub circuit : IsButForOffers r next.circuit w
    pub players_are : players ≡ next.players

  -- The sink has got a part of the line of such a round.
  pub record CutRound (before now : Option (List ℕ)) : Type 0 where
    pub line : RoundLine
    pub next : State P
    pub round : RoundOf (firsts budget limit) r turn a line next
    pub part : TookPart before now (round_text ports line)

  -- Why the round was not made.
  abbrev pub IsRoundFault : Option (List ℕ) → Option (List ℕ) → RoundFault → Type 0
  IsRoundFault before now (faults.Spent knot weight) = IsOver budget (net_ready r a) (spent knot weight budget) × (now ≡ before)
  IsRoundFault before now (faults.Wide knot) = IsOver budget (net_ready r a) (wide knot) × (now ≡ before)
  IsRoundFault before now faults.Failed = CutRound before now
  IsRoundFault before now faults.NoMemory = now ≡ before
