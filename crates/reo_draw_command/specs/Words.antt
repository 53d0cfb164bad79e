-- The words of the drawing command.
use Rattle.std.specs.Prelude.{ℕ, ◌==◌, cond, Option, Some, None, List, [], ◌∷◌, length, take}
use Rattle.reo_command.specs.declared.role.Role.{Role}
use Rattle.reo_command.specs.declared.role.Role.TheVariants as roles
use Rattle.reo_command.specs.Commands.{none_empty}
use Rattle.reo_draw_command.specs.declared.words.Drawing.{Drawing}
use Rattle.reo_draw_command.specs.declared.words.Drawing.TheVariants.{Circuit, Table, Round}

-- What so many words ask for: one a circuit, three the table of a trace, four the circuit in a round of a trace.
abbrev pub drawing_by : ℕ → Option Drawing
drawing_by count = cond (count == 1) (Some Circuit) (cond (count == 3) (Some Table) (cond (count == 4) (Some Round) None))

-- What some words ask for, none of which may be empty.
abbrev pub drawing_of : List (List ℕ) → Option Drawing
drawing_of words = cond (none_empty words) (drawing_by (length words)) None

-- The files that are fetched, in order.
abbrev pub roles_of : Drawing → List Role
roles_of Circuit = roles.Circuit ∷ []
roles_of Table = roles.Circuit ∷ roles.Script ∷ roles.Trace ∷ []
roles_of Round = roles.Circuit ∷ roles.Script ∷ roles.Trace ∷ []

-- Their names.
abbrev pub names_of : Drawing → List (List ℕ) → List (List ℕ)
names_of drawing words = take (length (roles_of drawing)) words
