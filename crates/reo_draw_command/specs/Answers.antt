-- What the drawing command has come to.
use Rattle.std.specs.Prelude.{ℕ, ◌≡◌, false, List, [], Option, Some, None, codes, slice_index_or}
use Rattle.reo_command.specs.declared.role.Role.{Role}
use Rattle.reo_command.specs.Claims.{ReadsClaim, StopsVerify}
use Rattle.reo_command.specs.Fetched.{Content}
use Rattle.reo_command.specs.Readings.{ReadsCircuit, StopsCheck}
use Rattle.reo_command.specs.States.{SinkState, FilesState, Change}
use Rattle.reo_command.specs.Statuses.{words_refused}
use Rattle.reo_command.specs.top_base.Answered.{IsAnswered}
use Rattle.reo_command.specs.top_base.Outputs.{Outputs, IsLine}
use Rattle.reo_command.specs.top_base.Owed.{owed_by}
use Rattle.reo_draw_command.specs.declared.words.Drawing.{Drawing}
use Rattle.reo_draw_command.specs.declared.words.Drawing.TheVariants.{Circuit, Table, Round}
use Rattle.reo_draw_command.specs.Drawn.{DrawsCircuit}
use Rattle.reo_draw_command.specs.Rounds.{DrawsRound}
use Rattle.reo_draw_command.specs.Tabled.{TablesTrace}
use Rattle.reo_draw_command.specs.Words.{drawing_of, roles_of, names_of}

-- What a drawing owes for its words: the picture of the circuit, the table of the trace, or the picture of the round that the
-- last word names.
abbrev pub owed_of : Drawing → List (List ℕ) → List Content → Outputs
owed_of Circuit words = owed_by ReadsCircuit StopsCheck DrawsCircuit
owed_of Table words = owed_by ReadsClaim StopsVerify TablesTrace
owed_of Round words = owed_by ReadsClaim StopsVerify (DrawsRound (slice_index_or words 3 []))

-- The same, or the refusal of words that have no form, for which nothing is fetched.
abbrev pub owed_for : Option Drawing → List (List ℕ) → List Content → Outputs
owed_for None words answers = λ bytes code. (answers ≡ []) × IsLine (codes "words refused\n") words_refused bytes code
owed_for (Some drawing) words answers = owed_of drawing words answers

-- The files of a drawing, and their names.
abbrev pub roles_for : Option Drawing → List Role
roles_for None = []
roles_for (Some drawing) = roles_of drawing

abbrev pub names_for : Option Drawing → List (List ℕ) → List (List ℕ)
names_for None words = []
names_for (Some drawing) words = names_of drawing words

-- What the command has come to, by what its words ask for.
abbrev pub AnsweredFor : Option Drawing → List (List ℕ) → Change FilesState → Change SinkState → ℕ → Type 0
AnsweredFor o words files sink code = IsAnswered false (owed_for o words) (roles_for o) (names_for o words) files sink code

abbrev pub Answered : List (List ℕ) → Change FilesState → Change SinkState → ℕ → Type 0
Answered words files sink code = AnsweredFor (drawing_of words) words files sink code
