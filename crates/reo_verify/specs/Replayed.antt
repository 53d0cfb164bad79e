-- What a replay comes to.
use Rattle.std.specs.Prelude.{ℕ, ◌+◌, ◌≡◌, Option, List, ◌∷◌, ◌++◌, length}
use Rattle.reo_net_base.specs.Net.{Wiring}
use Rattle.reo_players.specs.Players.{Player}
use Rattle.reo_trace.specs.declared.line.RoundLine.{RoundLine}
use Rattle.reo_trace.specs.declared.line.Ending.{Ending}
use Rattle.reo_rounds.specs.Rules.{Rules}
use Rattle.reo_runs.specs.Round.{State, RoundOf, net_ready}
use Rattle.reo_runs.specs.Run.{Place, Leads, over_after}
use Rattle.reo_runs.specs.at_ports.Pending.{IsButForOffers}
use Rattle.reo_runs.specs.declared.verdicts.verdict.Refusal.{Refusal}
use Rattle.reo_runs.specs.declared.verdicts.verdict.Refusal.TheVariants as refusals
use Rattle.reo_runs.specs.declared.verdicts.verdict.Verdict.{Verdict}
use Rattle.reo_runs.specs.declared.verdicts.verdict.Verdict.TheVariants as verdicts
use Rattle.reo_runs.specs.verdicts.Replays.{colourings}
use Rattle.reo_runs.specs.verdicts.Said.{jammed}
use Rattle.reo_runs.specs.verdicts.Verdicts.{IsWrongAt}
use Rattle.reo_verify.specs.declared.judging.judging.Stop.{Stop}
use Rattle.reo_verify.specs.declared.outcome.Outcome.{Outcome}
use Rattle.reo_verify.specs.declared.halt.Halt.{Halt}
use Rattle.reo_verify.specs.declared.halt.Halt.TheVariants as halts
use Rattle.reo_verify.specs.judging.Ends.{IsEndOf}
use Rattle.reo_verify.specs.judging.Judged.{IsLineStop}

-- The round that a line shows was made of a state: the circuit is as it left it, but for offers, and the components too.
pub record IsReplayed {P : Type 0} (r : Rules P) (turn : ℕ) (a : State P) (line : RoundLine) (w : Wiring P) (players : List Player) (over : Option Ending) : Type 0 where
  pub next : State P
  pub round : RoundOf colourings r turn a line next
  pub over_is : over ≡ over_after turn line.idle a.players next.players
  pub circuit : IsButForOffers r next.circuit w
  pub players_are : players ≡ next.players

-- Why the line shows no round of the state.
abbrev pub IsNoRound : {P : Type 0} → Rules P → State P → RoundLine → Stop → Type 0
IsNoRound r a line stop = IsLineStop (net_ready r a) a.circuit.ports line stop

-- All lines are rounds of a run from the start that comes so far, and come to this.
pub record AreReplayed {P : Type 0} (r : Rules P) (start : Place P) (lines : List RoundLine) (outcome : Outcome) : Type 0 where
  pub last : Place P
  pub rounds : Leads colourings r 1 start lines last
  pub over_is : last.over ≡ outcome.over
  pub count : outcome.rounds ≡ length lines
  pub jams : outcome.jammed ≡ jammed lines

-- The verdict on a trace of an ending, all of whose lines are rounds of a run, and come to this.
abbrev pub IsVerdictAt : Outcome → Ending → Verdict → Type 0
IsVerdictAt outcome ending (verdicts.Verified rounds jams) =
    IsEndOf outcome.over (outcome.rounds + 1) ending × (rounds ≡ outcome.rounds) × (jams ≡ outcome.jammed)
IsVerdictAt outcome ending (verdicts.Refused refusal) =
    (IsEndOf outcome.over (outcome.rounds + 1) ending → ⊥) × (refusal ≡ refusals.End)

module _ {P : Type 0} (r : Rules P) (nodes : List (List ℕ)) (homes : List ℕ) (start : Place P) where
  -- Some line is no round of such a run, and this is the first that is wrong with it; or memory ran out.
  pub record IsCutOff (lines : List RoundLine) (refusal : Refusal) : Type 0 where
    pub right : List RoundLine
    pub line : RoundLine
    pub left : List RoundLine
    pub last : Place P
    pub cut : lines ≡ right ++ line ∷ left
    pub rounds : Leads colourings r 1 start right last
    pub wrong : (ending : Ending) → IsWrongAt r nodes homes (length right + 1) last (line ∷ left) ending refusal

  abbrev pub IsHalted : List RoundLine → Halt → Type 0
  IsHalted lines (halts.Refused refusal) = IsCutOff lines refusal
  IsHalted lines halts.NoMemory = Unit {0}
