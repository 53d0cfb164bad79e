-- All that the top call says of what it has come to.
use Rattle.std.specs.Prelude.{ℕ, List}
use Rattle.reo_command.specs.States.{SinkState, FilesState, Change}
use Rattle.reo_live.specs.closings.Sources.{SourceChange}
use Rattle.reo_top.specs.Answers.{Answered, IsHonest, KeepsInputs}
use Rattle.reo_top.specs.Complete.{Complete}
use Rattle.reo_top.specs.Headline.{Headline}

pub record IsDone (words : List (List ℕ)) (files : Change FilesState) (source : SourceChange) (sink : Change SinkState) (code : ℕ) : Type 0 where
  pub headline : Headline words files sink code
  pub complete : Complete words files sink code
  pub answer : Answered words files source sink code
  pub honest : IsHonest words sink code
  pub inputs : KeepsInputs words files source.old source.new
