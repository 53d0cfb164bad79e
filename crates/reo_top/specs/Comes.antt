-- What the words of the top call come to.
use Rattle.std.specs.Prelude.{ℕ, List}
use Rattle.reo_command.specs.States.{SinkState, FilesState, Change}
use Rattle.reo_live.specs.closings.Sources.{SourceChange}
use Rattle.reo_top.specs.Answers.{Answered, IsHonest, KeepsInputs}

-- What is written is what is owed for these words, the status says so, and the inputs stay as told.
pub record ComesTo {R : Type 0} (words : List (List ℕ)) (files : Change FilesState) (source : SourceChange) (before after : R) (sink : Change SinkState) (code : ℕ) : Type 0 where
  pub answer : Answered words files source sink code
  pub honest : IsHonest words sink code
  pub inputs : KeepsInputs words files before after
