-- Completeness: where nothing fails, a run of what is accepted comes to its end.
use Rattle.std.specs.Prelude.{ℕ, ◌≡◌, ◌⊎◌, List, [], ◌∷◌, IfSome}
use Rattle.reo_io.specs.Causes.{Rose}
use Rattle.reo_top.specs.Headline.{Accepted, GaveAccepted, IsTraced}
use Rattle.reo_command.specs.Limits.{limits_of}
use Rattle.reo_command.specs.Readings.{Runnable}
use Rattle.reo_command.specs.States.{SinkState, FilesState, Change}
use Rattle.reo_command.specs.Statuses.{done, stuck, part_over, limit_reached, out_of_memory, IsAmong}

-- No fetch has failed, and the sink has not.
pub record NothingFailed (files : Change FilesState) (sink : Change SinkState) : Type 0 where
  pub fetches : files.new.failed ≡ files.old.failed
  pub takes : Rose sink.old.faults sink.new.faults → ⊥

-- The statuses of the endings of a run.
abbrev pub ending_statuses : List ℕ
ending_statuses = done ∷ stuck ∷ part_over ∷ limit_reached ∷ []

-- The whole trace of the run was written, and the status is that of its ending.
pub record IsWhole (words : List (List ℕ)) (r : Runnable) (sink : Change SinkState) (code : ℕ) : Type 0 where
  pub traced : IsTraced (limits_of words) r sink code
  pub status : IsAmong ending_statuses code

-- For every accepted circuit and script the whole trace was written, with the status of its ending, or memory ran out, where
-- nothing failed: for what the files are, where they are told, and for what the fetches gave.
pub record Complete (words : List (List ℕ)) (files : Change FilesState) (sink : Change SinkState) (code : ℕ) : Type 0 where
  pub told : IfSome files.old.told (λ folder. (r : Runnable) → Accepted words folder r → NothingFailed files sink
      → (code ≡ out_of_memory) ⊎ IsWhole words r sink code)
  pub given : (r : Runnable) → GaveAccepted words files r → NothingFailed files sink → (code ≡ out_of_memory) ⊎ IsWhole words r sink code
