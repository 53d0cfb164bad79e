-- The headline: what was written for a circuit and a script that are accepted.
use Rattle.std.specs.Prelude.{ℕ, ◌≡◌, List, [], ◌∷◌, ◌++◌, Some, IfSome}
use Rattle.reo_io.specs.Fetches.{Folder, file_of}
use Rattle.reo_runner.specs.declared.outcome.Limits.{Limits}
use Rattle.reo_runs.specs.Justified.{justified}
use Rattle.reo_command.specs.declared.command.Command.TheVariants.{Run}
use Rattle.reo_command.specs.declared.role.Role.TheVariants.{Circuit, Script}
use Rattle.reo_command.specs.top_base.Cases.{Adds, IsFailure}
use Rattle.reo_command.specs.Commands.{command_of, names_of}
use Rattle.reo_command.specs.Fetched.{content_of, text}
use Rattle.reo_command.specs.Limits.{limits_of, firsts_for}
use Rattle.reo_command.specs.Readings.{Runnable, ReadsRun}
use Rattle.reo_command.specs.States.{SinkState, FilesState, Change}
use Rattle.reo_top.specs.runs.Traces.{IsTraceOf}

-- The words are those of a run, and the files that they name are a circuit text and a script text that are accepted: as what
-- a program unfolds to that breaks no rule, and as a script for its ports.
pub record Accepted (words : List (List ℕ)) (folder : Folder) (r : Runnable) : Type 0 where
  pub run : command_of words ≡ Some Run
  pub circuit : List ℕ
  pub script : List ℕ
  pub names : names_of Run words ≡ circuit ∷ script ∷ []
  pub reads : ReadsRun (content_of Circuit (file_of folder circuit) ∷ content_of Script (file_of folder script) ∷ []) r

-- The words are those of a run, and its fetches gave a circuit text and a script text under the names in its words that are
-- accepted.
pub record GaveAccepted (words : List (List ℕ)) (files : Change FilesState) (r : Runnable) : Type 0 where
  pub run : command_of words ≡ Some Run
  pub circuit : List ℕ × List ℕ
  pub script : List ℕ × List ℕ
  pub names : names_of Run words ≡ circuit.0 ∷ script.0 ∷ []
  pub given : files.new.given ≡ files.old.given ++ circuit ∷ script ∷ []
  pub reads : ReadsRun (text circuit.1 ∷ text script.1 ∷ []) r

-- The trace of the run was written, with the status of its ending. Each round is the first colouring in the written order,
-- idle only where no colouring flows, and jams only what has no three-colouring; and the run stops only where each component is
-- done, it is stuck, it is at its limit, or a part is over.
pub record IsTraced (limits : Limits) (r : Runnable) (sink : Change SinkState) (code : ℕ) : Type 0 where
  pub bytes : List ℕ
  pub trace : IsTraceOf (justified (firsts_for limits)) r bytes code
  pub adds : Adds sink bytes

-- For every accepted circuit and script the trace of the run was written, unless a fetch or the sink failed or memory ran out:
-- for what the files are, where they are told, and for what the fetches gave, whatever files these were.
pub record Headline (words : List (List ℕ)) (files : Change FilesState) (sink : Change SinkState) (code : ℕ) : Type 0 where
  pub told : IfSome files.old.told (λ folder. (r : Runnable) → Accepted words folder r → (IsFailure code → ⊥) → IsTraced (limits_of words) r sink code)
  pub given : (r : Runnable) → GaveAccepted words files r → (IsFailure code → ⊥) → IsTraced (limits_of words) r sink code
