-- Output that a program gives on once its command is done.
use Rattle.std.specs.Prelude.{ℕ, ◌≡◌, ◌==◌, Bool, true, false, cond, List, [], Some, Result, Ok, Err}
use Rattle.reo_values.specs.declared.NoMemory.{NoMemory}
use Rattle.reo_io.specs.Causes.{one_more}
use Rattle.reo_io.specs.Real.{writer_faults, writer_took}
use Rattle.reo_io.specs.declared.std_sink.StdSink.{StdSink}
use Rattle.reo_command.specs.States.{SinkState, Change, sink_change}
use Rattle.reo_command.specs.Statuses.{write_fault, out_of_memory}

-- An output before and after a call.
abbrev pub output_change : {W : Type 0} → StdSink W → StdSink W → Change SinkState
output_change a b = sink_change (λ sink. Some (writer_took sink)) writer_faults a b

-- The status behind the last of the output: that of a failed output where it did not come out, unless memory ran out.
abbrev pub code_behind : Bool → ℕ → ℕ
code_behind false came = came
code_behind true came = cond (came == out_of_memory) out_of_memory write_fault

-- What was held back came out, and nothing is held back any more, or it failed, which the count of faults says; the status
-- says which.
pub record IsFlushed (sink : Change SinkState) (held : List ℕ) (came code : ℕ) : Type 0 where
  pub failed : Bool
  pub out : failed ≡ false → held ≡ []
  pub told : sink.new.told ≡ sink.old.told
  pub faults : sink.new.faults ≡ cond failed (one_more sink.old.faults) sink.old.faults
  pub code_is : code ≡ code_behind failed came

-- A command came to this on an output, and then all that it put was given on.
pub record IsOut (Comes : Change SinkState → ℕ → Type 0) (sink : Change SinkState) (held : List ℕ) (code : ℕ) : Type 0 where
  pub mid : SinkState
  pub came : ℕ
  pub comes : Comes (record { old = sink.old; new = mid }) came
  pub flushed : IsFlushed (record { old = mid; new = sink.new }) held came code

-- What a program has ended with: what its command comes to for its words, or that memory for the words ran out. Then the output
-- is as it was and holds nothing back, and what it reads from is kept.
abbrev pub HasEnded : (List (List ℕ) → Change SinkState → ℕ → Type 0) → (Kept : Type 0) → Result (List (List ℕ)) NoMemory → Change SinkState → List ℕ → ℕ → Type 0
HasEnded Comes Kept (Ok words) sink held code = IsOut (Comes words) sink held code
HasEnded Comes Kept (Err _) sink held code = (code ≡ out_of_memory) × (sink.new ≡ sink.old) × (held ≡ []) × Kept
