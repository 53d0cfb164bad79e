-- What a command has written, and its status.
use Rattle.std.specs.Prelude.{ℕ, ◌≡◌, ◌⊎◌, ◌++◌, ◌<◌, ◌≤◌, Bool, true, false, List, [], Option, codes}
use Rattle.reo_io.specs.Causes.{Rose}
use Rattle.reo_io.specs.Sinks.{Appended, TookPart}
use Rattle.reo_command.specs.top_base.Outputs.{Outputs}
use Rattle.reo_command.specs.States.{SinkState, Change}
use Rattle.reo_command.specs.Statuses.{read_fault, write_fault, out_of_memory}

-- These bytes came at the end of what the sink tells.
abbrev pub Adds : Change SinkState → List ℕ → Type 0
Adds sink bytes = Appended sink.old.told sink.new.told bytes

-- The sink failed, and has got a front of these bytes, and not the whole.
abbrev pub Breaks : Change SinkState → List ℕ → Type 0
Breaks sink bytes = TookPart sink.old.told sink.new.told bytes × Rose sink.old.faults sink.new.faults

-- A whole output was written, with its status.
pub record Wrote (Owed : Outputs) (sink : Change SinkState) (code : ℕ) : Type 0 where
  pub bytes : List ℕ
  pub owed : Owed bytes code
  pub adds : Adds sink bytes

-- The sink failed on a whole output.
pub record Broke (Owed : Outputs) (sink : Change SinkState) (code : ℕ) : Type 0 where
  pub bytes : List ℕ
  pub status : ℕ
  pub owed : Owed bytes status
  pub breaks : Breaks sink bytes
  pub code_is : code ≡ write_fault

-- Whole lines at the front of a whole output, in order and none skipped.
pub record AreFirstLines (Owed : Outputs) (lines : List ℕ) : Type 0 where
  pub rest : List ℕ
  pub status : ℕ
  pub owed : Owed (lines ++ rest) status
  pub front : List ℕ
  pub ends : lines ≡ front ++ codes "\n"

-- The line that says that memory ran out came, or a front of it where the sink failed on it.
abbrev pub SaysNoMemory : Change SinkState → Type 0
SaysNoMemory sink = Adds sink (codes "no memory\n") ⊎ Breaks sink (codes "no memory\n")

-- Memory ran out: no line or the first lines of a whole output came, and then that.
pub record RanOut (Owed : Outputs) (sink : Change SinkState) (code : ℕ) : Type 0 where
  pub lines : List ℕ
  pub first : (lines ≡ []) ⊎ AreFirstLines Owed lines
  pub between : Option (List ℕ)
  pub adds : Appended sink.old.told between lines
  pub says : SaysNoMemory (record { old = record { told = between; faults = sink.old.faults }; new = sink.new })
  pub code_is : code ≡ out_of_memory

-- A whole output was written, the sink failed on one, or memory ran out.
abbrev pub Cases : Outputs → Change SinkState → ℕ → Type 0
Cases Owed sink code = Wrote Owed sink code ⊎ (Broke Owed sink code ⊎ RanOut Owed sink code)

-- The statuses of what is no whole output: a fetch failed, the sink failed, memory ran out.
abbrev pub IsFailure : ℕ → Type 0
IsFailure code = (code ≡ read_fault) ⊎ ((code ≡ write_fault) ⊎ (code ≡ out_of_memory))

-- These bytes were written, with their status, or else the sink failed or memory ran out.
abbrev pub IsWritten : Change SinkState → ℕ → Outputs
IsWritten sink code bytes status = ((code ≡ status) × Adds sink bytes) ⊎ ((code ≡ write_fault) ⊎ (code ≡ out_of_memory))

-- There is no other whole output than the one that was written, unless the sink failed or memory ran out.
abbrev pub IsExact : Outputs → Change SinkState → ℕ → Type 0
IsExact Owed sink code = (bytes : List ℕ) (status : ℕ) → Owed bytes status → IsWritten sink code bytes status

-- The same, where the output is not free; where it is, the status alone is that of a whole output.
abbrev pub IsExactFor : Bool → Outputs → Change SinkState → ℕ → Type 0
IsExactFor true Owed sink code =
    (bytes : List ℕ) (status : ℕ) → Owed bytes status → (code ≡ status) ⊎ ((code ≡ write_fault) ⊎ (code ≡ out_of_memory))
IsExactFor false Owed sink code = IsExact Owed sink code

-- A line was written, with its status, or the sink failed on it.
abbrev pub Refuses : List ℕ → ℕ → Change SinkState → ℕ → Type 0
Refuses line status sink code = ((code ≡ status) × Adds sink line) ⊎ ((code ≡ write_fault) × Breaks sink line)

-- A call that says that memory ran out.
abbrev pub EndsWithNoMemory : Change SinkState → ℕ → Type 0
EndsWithNoMemory sink code = (code ≡ out_of_memory) × SaysNoMemory sink

-- A fault of the sink is answered only where its count of faults has risen; that count has not fallen, and what the sink had
-- got before stands first in what it has got.
pub record IsFair (sink : Change SinkState) (code : ℕ) : Type 0 where
  pub rose : code ≡ write_fault → Rose sink.old.faults sink.new.faults
  pub later : sink.old.faults ≤ sink.new.faults
  pub grew : (bytes : List ℕ) × Adds sink bytes

-- Where the count of faults of the sink has risen, a fault of the sink is answered, or that memory ran out.
abbrev pub TellsFaults : Change SinkState → ℕ → Type 0
TellsFaults sink code = sink.old.faults < sink.new.faults → (code ≡ write_fault) ⊎ (code ≡ out_of_memory)
