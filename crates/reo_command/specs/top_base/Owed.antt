-- What a command owes, by what it reads in its files.
use Rattle.std.specs.Prelude.{◌⊎◌, List}
use Rattle.reo_command.specs.declared.stop.Stop.{Stop}
use Rattle.reo_command.specs.Fetched.{Content}
use Rattle.reo_command.specs.Stops.{stop_text, stop_status}
use Rattle.reo_command.specs.top_base.Outputs.{Outputs, IsLine}

-- The line of what stops the command, or what it makes of what it reads.
abbrev pub owed_by : {X : Type 0} → (List Content → X → Type 0) → (List Content → Stop → Type 0) → (X → Outputs) → List Content → Outputs
owed_by {X} Reads Stops Makes answers bytes code =
    ((stop : Stop) × Stops answers stop × IsLine (stop_text stop) (stop_status stop) bytes code)
    ⊎ ((x : X) × Reads answers x × Makes x bytes code)
