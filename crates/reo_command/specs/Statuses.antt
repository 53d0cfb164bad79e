-- The statuses by their names, and those that each command may have.
use Rattle.std.specs.Prelude.{ℕ, ◌==◌, List, [], ◌∷◌, Option, Some, None, IsTrue}
use Rattle.std.specs.List.{list_any}
use Rattle.reo_command.specs.declared.command.Command.{Command}
use Rattle.reo_command.specs.declared.command.Command.TheVariants.{Run, Check, Print, Upgrade, Verify, Bench, Live, Tables, Prove, VerifyProof}

-- Each component is at its end, or another command did its work.
abbrev pub done : ℕ
done = 0

-- Some component is not at its end, and nothing flowed in the last round.
abbrev pub stuck : ℕ
stuck = 1

-- The words have no form.
abbrev pub words_refused : ℕ
words_refused = 2

-- A file cannot be had, or the source failed.
abbrev pub read_fault : ℕ
read_fault = 3

-- A file has more bytes than its limit, or the source has.
abbrev pub too_long : ℕ
too_long = 4

-- The text of a circuit is refused.
abbrev pub circuit_refused : ℕ
circuit_refused = 5

-- The text of a script is refused.
abbrev pub script_refused : ℕ
script_refused = 6

-- A part of the round that stood next, or of the open circuit that is listed, is over: its weight is above the budget, or it
-- is too wide.
abbrev pub part_over : ℕ
part_over = 7

-- The limit of rounds is reached.
abbrev pub limit_reached : ℕ
limit_reached = 8

-- The sink failed.
abbrev pub write_fault : ℕ
write_fault = 9

-- Memory ran out.
abbrev pub out_of_memory : ℕ
out_of_memory = 10

-- The text of a trace is none, or the trace is refused.
abbrev pub trace_refused : ℕ
trace_refused = 11

-- A proof text is refused.
abbrev pub proof_refused : ℕ
proof_refused = 13

-- The tables of a circuit are refused: it has a filter, or one of them has too many lists.
abbrev pub tables_refused : ℕ
tables_refused = 14

-- The statuses of a command that reads a circuit.
abbrev pub circuit_statuses : List ℕ
circuit_statuses = read_fault ∷ too_long ∷ circuit_refused ∷ write_fault ∷ out_of_memory ∷ []

-- Those of one that runs a script.
abbrev pub run_statuses : List ℕ
run_statuses = done ∷ stuck ∷ script_refused ∷ part_over ∷ limit_reached ∷ circuit_statuses

-- The statuses of a command.
abbrev pub statuses_of : Command → List ℕ
statuses_of Run = run_statuses
statuses_of Check = done ∷ circuit_statuses
statuses_of Print = done ∷ circuit_statuses
statuses_of Upgrade = done ∷ circuit_statuses
statuses_of Verify = done ∷ script_refused ∷ trace_refused ∷ circuit_statuses
statuses_of Bench = done ∷ part_over ∷ write_fault ∷ out_of_memory ∷ []
statuses_of Live = done ∷ part_over ∷ circuit_statuses
statuses_of Tables = done ∷ part_over ∷ tables_refused ∷ circuit_statuses
statuses_of Prove = run_statuses
statuses_of VerifyProof = done ∷ script_refused ∷ proof_refused ∷ circuit_statuses

-- The statuses of the command, or of the refusal of words that have none.
abbrev pub statuses_for : Option Command → List ℕ
statuses_for None = words_refused ∷ write_fault ∷ []
statuses_for (Some command) = statuses_of command

-- One of these statuses.
abbrev pub IsAmong : List ℕ → ℕ → Type 0
IsAmong statuses code = IsTrue (list_any (λ status. code == status) statuses)
