-- How far a run may go, by the words.
use Rattle.std.specs.Prelude.{ℕ, List, option_and_then, slice_get}
use Rattle.std.specs.Option.{unwrap_or}
pub use Rattle.reo_runner.specs.declared.outcome.Limits.{Limits}
use Rattle.reo_runs.specs.Round.{Choosing}
use Rattle.reo_runs.specs.Run.{firsts}
use Rattle.reo_command.specs.declared.command.Command.{Command}
use Rattle.reo_command.specs.declared.command.Command.TheVariants.{Run, Live}
use Rattle.reo_command.specs.declared.setting.Setting.TheVariants.{Budget, Rounds}
use Rattle.reo_command.specs.Commands.{numbers_in}
use Rattle.reo_command.specs.declared.setting.Setting.{Setting}
use Rattle.reo_command.specs.Settings.{absent}

-- How far a run may go where no option says it.
abbrev pub usual_limits : Limits
usual_limits = record { budget = absent Budget; rounds = absent Rounds }

-- The number of an option of a command, by its place among the options; that for where it is absent, where the words are not
-- those of the command.
abbrev pub number_or_absent : Command → List (List ℕ) → ℕ → Setting → ℕ
number_or_absent command words place setting =
    unwrap_or (option_and_then (λ (numbers : List ℕ). slice_get numbers place) (numbers_in command words)) (absent setting)

-- How far the run of these words may go: as their options say.
abbrev pub limits_of : List (List ℕ) → Limits
limits_of words = record { budget = number_or_absent Run words 0 Budget; rounds = number_or_absent Run words 1 Rounds }

-- The budget of the rounds that these words hear.
abbrev pub budget_of : List (List ℕ) → ℕ
budget_of words = number_or_absent Live words 0 Budget

-- The choice of such a run: in each round the first colouring.
abbrev pub firsts_for : Limits → Choosing
firsts_for limits = firsts limits.budget limits.rounds
