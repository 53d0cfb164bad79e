-- What was written for what stopped a command.
use Rattle.std.specs.Prelude.{ℕ, ◌⊎◌}
use Rattle.reo_command.specs.declared.stop.Stop.{Stop}
use Rattle.reo_command.specs.declared.stop.Stop.TheVariants.{Missed, TooLong, Refused, NoMemory}
use Rattle.reo_command.specs.top_base.Cases.{Refuses, EndsWithNoMemory}
use Rattle.reo_command.specs.States.{SinkState, Change}
use Rattle.reo_command.specs.Stops.{stop_text, stop_status}

-- The line of the stop was written, or the sink failed on it; a refusal may also end out of memory.
abbrev pub IsRefusedAs : Stop → Change SinkState → ℕ → Type 0
IsRefusedAs (Missed role) sink code = Refuses (stop_text (Missed role)) (stop_status (Missed role)) sink code
IsRefusedAs (TooLong role) sink code = Refuses (stop_text (TooLong role)) (stop_status (TooLong role)) sink code
IsRefusedAs (Refused role r) sink code = Refuses (stop_text (Refused role r)) (stop_status (Refused role r)) sink code ⊎ EndsWithNoMemory sink code
IsRefusedAs NoMemory sink code = EndsWithNoMemory sink code
