-- What stops a command before its own work, and the line that it then writes.
use Rattle.std.specs.Prelude.{ℕ, ◌≡◌, ◌++◌, List, codes}
use Rattle.reo_command.specs.declared.role.Role.{Role}
use Rattle.reo_command.specs.declared.stop.Stop.{Stop}
use Rattle.reo_command.specs.declared.stop.Stop.TheVariants.{Missed, TooLong, Refused, NoMemory}
use Rattle.reo_command.specs.Fetched.{Content, gone, long, text, unknown}
use Rattle.reo_command.specs.Refusals.{refusal_text}
use Rattle.reo_command.specs.Roles.{role_text, refused_text, refused_status}
use Rattle.reo_command.specs.Statuses.{read_fault, too_long, out_of_memory}

-- The line of a stop.
abbrev pub stop_text : Stop → List ℕ
stop_text (Missed role) = codes "read fault " ++ role_text role ++ codes "\n"
stop_text (TooLong role) = codes "too long " ++ role_text role ++ codes "\n"
stop_text (Refused role refusal) = refused_text role ++ codes " refused: " ++ refusal_text refusal ++ codes "\n"
stop_text NoMemory = codes "no memory\n"

-- The status of a stop.
abbrev pub stop_status : Stop → ℕ
stop_status (Missed role) = read_fault
stop_status (TooLong role) = too_long
stop_status (Refused role refusal) = refused_status role
stop_status NoMemory = out_of_memory

-- The file of a role stops the command: it cannot be had, is too long, or its text does.
abbrev pub FileStops : Role → (List ℕ → Stop → Type 0) → Content → Stop → Type 0
FileStops role TextStops gone stop = stop ≡ Missed role
FileStops role TextStops long stop = stop ≡ TooLong role
FileStops role TextStops (text bytes) stop = TextStops bytes stop
FileStops role TextStops unknown stop = ⊥
