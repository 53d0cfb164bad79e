-- All that the drawing command says of what it has come to.
use Rattle.std.specs.Prelude.{ℕ, List}
use Rattle.reo_command.specs.States.{SinkState, FilesState, Change}
use Rattle.reo_command.specs.Statuses.{IsAmong}
use Rattle.reo_command.specs.top_base.Cases.{IsFair, TellsFaults}
use Rattle.reo_draw_command.specs.Answers.{Answered}
use Rattle.reo_draw_command.specs.DrawStatuses.{statuses_for}
use Rattle.reo_draw_command.specs.Words.{drawing_of}

pub record IsDone (words : List (List ℕ)) (files : Change FilesState) (sink : Change SinkState) (code : ℕ) : Type 0 where
  pub answer : Answered words files sink code
  pub status : IsAmong (statuses_for (drawing_of words)) code
  pub fair : IsFair sink code
  pub tells : TellsFaults sink code
