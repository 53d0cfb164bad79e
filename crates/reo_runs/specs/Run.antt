-- Whole runs.
use Rattle.std.specs.Prelude.{ℕ, ◌+◌, ◌≤◌, ◌≡◌, ◌&&◌, ◌⊎◌, Bool, not, cond, Option, Some, None, List, [], ◌∷◌, length, map}
use Rattle.reo_net_base.specs.Net.{Wiring}
use Rattle.reo_script.specs.declared.scripts.action.Component.{Component}
use Rattle.reo_players.specs.Players.{Player, beginning_of, all_done, someone_counts}
use Rattle.reo_trace.specs.declared.line.RoundLine.{RoundLine}
use Rattle.reo_trace.specs.declared.line.Ending.{Ending}
use Rattle.reo_trace.specs.declared.line.Ending.TheVariants as endings
use Rattle.reo_rounds.specs.RoundOn.{first_within}
use Rattle.reo_rounds.specs.Rules.{Rules}
use Rattle.reo_rounds.specs.Stopping.{ending_by}
use Rattle.reo_weights.specs.Over.{Cause, IsOver}
use Rattle.reo_runs.specs.Round.{State, Choosing, RoundOf, net_ready}

-- How far a run has come: its state, and how it ended where it is done or stuck.
pub record Place (P : Type 0) : Type 0 where
  pub state : State P
  pub over : Option Ending

-- A run is done before the first round where each component is done.
abbrev pub start_of : {P : Type 0} → Wiring P → List Component → Place P
start_of w components = record {
  state = record { circuit = w; players = map beginning_of components };
  over = cond (all_done (map beginning_of components)) (Some (endings.Done 0)) None;
}

-- After a round a run is done where each component is done, else stuck where the round was idle and no component counted in it.
abbrev pub over_after : ℕ → Bool → List Player → List Player → Option Ending
over_after turn idle before now = cond (all_done now) (Some (endings.Done turn)) (cond (idle && not (someone_counts before)) (Some (endings.Stuck turn)) None)

-- How far it has come after a round.
abbrev pub place_after : {P : Type 0} → ℕ → RoundLine → State P → State P → Place P
place_after turn line a b = record { state = b; over = over_after turn line.idle a.players b.players }

module _ {P : Type 0} (C : Choosing) (r : Rules P) where
  -- From a place before the round of this number these rounds lead to another, and the run is over at none before it.
  abbrev pub Leads : ℕ → Place P → List RoundLine → Place P → Type 0
  Leads turn p [] q = p ≡ q
  Leads turn p (line ∷ lines) q = (p.over ≡ None) × (b : State P) × RoundOf C r turn p.state line b × Leads (turn + 1) (place_after turn line p.state b) lines q

  -- The ending of a run that has come so far: it is over so, or it is not over and stops so in place of the round of this number.
  abbrev pub EndsAs : ℕ → Place P → Ending → Type 0
  EndsAs turn q ending = (q.over ≡ Some ending) ⊎ ((q.over ≡ None) × C.stops (net_ready r q.state) turn ending)

  -- A whole run.
  pub record IsRun (start : Place P) (lines : List RoundLine) (ending : Ending) : Type 0 where
    pub last : Place P
    pub rounds : Leads 1 start lines last
    pub ends : EndsAs (length lines + 1) last ending

  -- The first rounds of a run that goes on behind them.
  pub record HasBegun (start : Place P) (lines : List RoundLine) (state : State P) : Type 0 where
    pub rounds : Leads 1 start lines (record { state = state; over = None })

-- The choice of a run: as long as the limit allows and no part is over the first colouring, and else the ending that says so.
abbrev pub firsts : (budget limit : ℕ) → Choosing
firsts budget limit = record {
  suits = λ net turn rows items. (turn ≤ limit) × first_within budget net turn rows items;
  stops = λ net turn ending. ((limit + 1 ≡ turn) × (ending ≡ endings.Limit limit)) ⊎ ((turn ≤ limit) × (cause : Cause) × IsOver budget net cause × (ending ≡ ending_by turn cause));
}
