-- What the program has ended with, over the files of the system, which tell nothing before they give it.
use Rattle.std.specs.Prelude.{ℕ, ◌≡◌, List, Result}
use Rattle.reo_values.specs.declared.NoMemory.{NoMemory}
use Rattle.reo_command.specs.Outside.{HasEnded}
use Rattle.reo_command.specs.States.{SinkState, FilesState, Change, unfetched}
use Rattle.reo_draw_command.specs.Done.{IsDone}

pub record EndsOver (words : Result (List (List ℕ)) NoMemory) (sink : Change SinkState) (held : List ℕ) (code : ℕ) : Type 0 where
  pub files : Change FilesState
  pub begin : files.old ≡ unfetched
  pub ended : HasEnded (λ words. IsDone words files) (files.new ≡ files.old) words sink held code
