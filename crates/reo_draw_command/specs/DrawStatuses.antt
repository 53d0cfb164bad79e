-- The statuses of drawings.
use Rattle.std.specs.Prelude.{ℕ, List, [], ◌∷◌, Option, Some, None}
use Rattle.reo_command.specs.Statuses.{done, words_refused, script_refused, write_fault, trace_refused, circuit_statuses}
use Rattle.reo_draw_command.specs.declared.words.Drawing.{Drawing}
use Rattle.reo_draw_command.specs.declared.words.Drawing.TheVariants.{Circuit, Table, Round}

-- The trace has no round of the number.
abbrev pub no_round : ℕ
no_round = 15

abbrev pub statuses_of_circuit : List ℕ
statuses_of_circuit = done ∷ circuit_statuses

abbrev pub statuses_of_table : List ℕ
statuses_of_table = done ∷ script_refused ∷ trace_refused ∷ circuit_statuses

abbrev pub statuses_of_round : List ℕ
statuses_of_round = no_round ∷ statuses_of_table

-- The statuses of a drawing, or of the refusal of words that have no form.
abbrev pub statuses_of : Drawing → List ℕ
statuses_of Circuit = statuses_of_circuit
statuses_of Table = statuses_of_table
statuses_of Round = statuses_of_round

abbrev pub statuses_for : Option Drawing → List ℕ
statuses_for None = words_refused ∷ write_fault ∷ []
statuses_for (Some drawing) = statuses_of drawing
