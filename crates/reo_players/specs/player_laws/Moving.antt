-- A component in a round in which its offer flows, and one that is done.
use Rattle.std.specs.Prelude.{ℕ, ◌≡◌, Bool, true, List, [], ◌∷◌}
use Rattle.reo_players.specs.declared.step.Step.TheVariants.{Moved, Stays}
use Rattle.reo_players.specs.Written.{Task}
use Rattle.reo_players.specs.Players.{Player, after, step_of}

-- A component whose present action has seen so many rounds.
abbrev pub player_with : List Task → ℕ → Player
player_with tasks seen = record { rest = tasks; seen = seen }

-- The next action is present, and has seen no round.
pub record MovesOn (task : Task) (tasks : List Task) (seen : ℕ) : Type 0 where
  pub next : after true (player_with (task ∷ tasks) seen) ≡ player_with tasks 0
  pub step : step_of true (player_with (task ∷ tasks) seen) ≡ Moved

-- So it is whatever the action, whether or not it has a bound, and however many rounds it has seen.
abbrev pub FlowMovesOn : Type 0
FlowMovesOn = (task : Task) (tasks : List Task) (seen : ℕ) → MovesOn task tasks seen

-- With nothing left to do it has nothing left to do.
pub record StaysDone (flowed : Bool) (seen : ℕ) : Type 0 where
  pub done : (after flowed (player_with [] seen)).rest ≡ []
  pub step : step_of flowed (player_with [] seen) ≡ Stays

abbrev pub DoneStaysDone : Type 0
DoneStaysDone = (flowed : Bool) (seen : ℕ) → StaysDone flowed seen
