-- The written-out list of a component: its actions with every repeat written out.
use Rattle.std.specs.Prelude.{ℕ, zero, suc, Option, List, [], ◌∷◌, ◌++◌}
use Rattle.std.specs.List.{flat_map}
use Rattle.reo_values.specs.declared.value.Value.{Value}
use Rattle.reo_script.specs.declared.scripts.action.Action as action
use Rattle.reo_script.specs.declared.scripts.action.Action.{Action}
use Rattle.reo_script.specs.declared.scripts.action.Component.{Component}

-- What stands in a written-out list: a write or a take at a port, with a bound or none, or a pause of so many rounds.
pub data Task : Type 0 where
  writes : ℕ → Value → Option ℕ → Task
  takes : ℕ → Option ℕ → Task
  rests : ℕ → Task

-- A list so many times over.
abbrev pub times_over : ℕ → List Task → List Task
times_over zero ts = []
times_over (suc n) ts = ts ++ times_over n ts

abbrev mutual
  -- What an action is, written out.
  pub written : Action → List Task
  written (action.Write port item within) = writes port item within ∷ []
  written (action.Take port within) = takes port within ∷ []
  written (action.Pause rounds) = rests rounds ∷ []
  written (action.Repeat' times shape body) = times_over times (written_row body)

  pub written_row : {m : _} → action.Row_of-Action m → List Task
  written_row action.end_of-Action = []
  written_row (action.more_of-Action a rest) = written a ++ written_row rest

-- The written-out list of a component.
abbrev pub written_out : Component → List Task
written_out c = flat_map written c.actions
