-- What the top call has come to.
use Rattle.std.specs.Prelude.{ℕ, ◌≡◌, ◌⊎◌, ◌&&◌, Bool, true, false, List, [], Option, Some, None}
use Rattle.reo_command.specs.declared.command.Command.{Command}
use Rattle.reo_command.specs.declared.role.Role.{Role}
use Rattle.reo_command.specs.top_base.Answered.{IsAnsweredWith}
use Rattle.reo_command.specs.top_base.Cases.{IsFair, TellsFaults}
use Rattle.reo_live.specs.closings.Sources.{SourceChange, Events, AreTaken, SaidEnd, followed}
use Rattle.reo_command.specs.Commands.{command_of, roles_of, is_free, takes_events, names_of}
use Rattle.reo_command.specs.Fetched.{Content}
use Rattle.reo_command.specs.top_base.Outputs.{Outputs}
use Rattle.reo_command.specs.Readings.{FlatCircuit, ReadsCircuit}
use Rattle.reo_top.specs.Heard.{TakesFew, TellsMisses}
use Rattle.reo_top.specs.Owed.{owed_for}
use Rattle.reo_command.specs.States.{SinkState, FilesState, Change}
use Rattle.reo_command.specs.Statuses.{IsAmong, statuses_for}

-- The files of a command, and their names.
abbrev pub roles_for : Option Command → List Role
roles_for None = []
roles_for (Some command) = roles_of command

abbrev pub names_for : Option Command → List (List ℕ) → List (List ℕ)
names_for None words = []
names_for (Some command) words = names_of command words

-- The output of words without form is not free.
abbrev pub free_for : Option Command → Bool
free_for None = false
free_for (Some command) = is_free command

-- Whether the command takes its events from the source.
abbrev pub takes_for : Option Command → Bool
takes_for None = false
takes_for (Some command) = takes_events command

-- What a command has come to over a source, for some events: those that it tells, where it does. A front of them was taken
-- from the source, and where it tells nothing all of them: there the command has come to this for whatever may follow them,
-- unless the source has said that it ends, or has failed. Where no circuit is had, the source is as it was.
pub record IsAnsweredOver (takes free : Bool) (Owed : Events → List Content → Outputs) (roles : List Role) (names : List (List ℕ)) (files : Change FilesState) (source : SourceChange) (sink : Change SinkState) (code : ℕ) : Type 0 where
  pub events : Events
  pub taken : AreTaken events source
  pub few : TakesFew source code
  pub misses : TellsMisses source code
  pub answered : IsAnsweredWith (takes && events.failed) free (Owed events) roles names files sink code
  pub untouched : ((flat : FlatCircuit) → ReadsCircuit answered.answers flat → ⊥) → source.new ≡ source.old
  pub whatever : events.failed ≡ false → SaidEnd source
      ⊎ ((more : List ℕ) → IsAnsweredWith false free (Owed (followed events more)) roles names files sink code)

-- What hearing the source on a circuit has come to.
abbrev pub IsHeardAs : Bool → (Events → List Content → Outputs) → List Role → List (List ℕ) → Change FilesState → SourceChange → Change SinkState → ℕ → Type 0
IsHeardAs = IsAnsweredOver true

-- What the top call has come to, by its words.
abbrev pub AnsweredFor : Option Command → List (List ℕ) → Change FilesState → SourceChange → Change SinkState → ℕ → Type 0
AnsweredFor o words = IsAnsweredOver (takes_for o) (free_for o) (owed_for o words) (roles_for o) (names_for o words)

abbrev pub Answered : List (List ℕ) → Change FilesState → SourceChange → Change SinkState → ℕ → Type 0
Answered words = AnsweredFor (command_of words) words

-- The status is one of the command's, and says what the sink did.
pub record IsHonest (words : List (List ℕ)) (sink : Change SinkState) (code : ℕ) : Type 0 where
  pub status : IsAmong (statuses_for (command_of words)) code
  pub fair : IsFair sink code
  pub tells : TellsFaults sink code

-- The files tell what they told, and the source is as it was, but for a command that takes events.
pub record KeepsInputs {R : Type 0} (words : List (List ℕ)) (files : Change FilesState) (before after : R) : Type 0 where
  pub told : files.new.told ≡ files.old.told
  pub source : takes_for (command_of words) ≡ false → after ≡ before
