-- What the program has ended with, over the files and the input of the system, which tell nothing before they give it.
use Rattle.std.specs.Prelude.{ℕ, ◌≡◌, List, [], Result, None}
use Rattle.reo_values.specs.declared.NoMemory.{NoMemory}
use Rattle.reo_command.specs.Outside.{HasEnded}
use Rattle.reo_command.specs.States.{SinkState, FilesState, Change, unfetched}
use Rattle.reo_live.specs.closings.Sources.{SourceState, SourceChange}
use Rattle.reo_top.specs.Done.{IsDone}

-- The input, of which nothing was taken yet.
abbrev pub unheard : SourceState
unheard = record { told = None; given = []; ends = 0; faults = 0 }

-- Files and a source are as they were.
abbrev pub AreKept : Change FilesState → SourceChange → Type 0
AreKept files source = (files.new ≡ files.old) × (source.new ≡ source.old)

pub record EndsOver (words : Result (List (List ℕ)) NoMemory) (sink : Change SinkState) (held : List ℕ) (code : ℕ) : Type 0 where
  pub files : Change FilesState
  pub source : SourceChange
  pub files_begin : files.old ≡ unfetched
  pub source_begins : source.old ≡ unheard
  pub ended : HasEnded (λ words. IsDone words files source) (AreKept files source) words sink held code
