-- What a command that fetches files has come to.
use Rattle.std.specs.Prelude.{ℕ, ◌≡◌, ◌⊎◌, ◌||◌, Bool, true, false, List}
use Rattle.reo_command.specs.declared.role.Role.{Role}
use Rattle.reo_command.specs.Fetched.{Content, has_gone, AreFetched}
use Rattle.reo_command.specs.States.{SinkState, FilesState, Change}
use Rattle.reo_command.specs.Statuses.{read_fault, write_fault}
use Rattle.reo_command.specs.top_base.Cases.{Cases, IsExactFor}
use Rattle.reo_command.specs.top_base.Outputs.{Outputs}

-- A file cannot be had, or a take failed, where the status says so; and where a file cannot be had the status says so, or the
-- sink failed on the line that does.
pub record Blames (failed : Bool) (answers : List Content) (code : ℕ) : Type 0 where
  pub only : code ≡ read_fault → (failed || has_gone answers) ≡ true
  pub told : has_gone answers ≡ true → (code ≡ read_fault) ⊎ (code ≡ write_fault)

-- What a command that fetches such files has come to, where a take failed or none did, for some answers of its fetches: those
-- of the files, where they are told. What was written is what is owed for these answers, and nothing else is.
pub record IsAnsweredWith (failed : Bool) (free : Bool) (Owed : List Content → Outputs) (roles : List Role) (names : List (List ℕ)) (files : Change FilesState) (sink : Change SinkState) (code : ℕ) : Type 0 where
  pub answers : List Content
  pub fetched : AreFetched roles names answers files
  pub cases : Cases (Owed answers) sink code
  pub exact : IsExactFor free (Owed answers) sink code
  pub blames : Blames failed answers code

-- The same, for a command that takes no events.
abbrev pub IsAnswered : Bool → (List Content → Outputs) → List Role → List (List ℕ) → Change FilesState → Change SinkState → ℕ → Type 0
IsAnswered = IsAnsweredWith false
