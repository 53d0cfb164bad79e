-- What hearing a source owes.
use Rattle.std.specs.Prelude.{ℕ, ◌≡◌, ◌⊎◌, ◌<◌, ◌≤◌, ◌+◌, ◌++◌, Bool, false, cond, List, [], ◌∷◌, length, codes}
use Rattle.reo_command.specs.Readings.{kind_rules, FlatCircuit}
use Rattle.reo_live.specs.declared.base.answer.Answer.{Answer}
use Rattle.reo_live.specs.base.Answers.{answers_text}
use Rattle.reo_live.specs.closings.Sources.{SourceChange, Events, AreTaken, AreTakenSoFar, SaidEnd, followed, most_events}
use Rattle.reo_live.specs.closings.Closings.{Closing, over, many, missed, ends, Closes}
use Rattle.reo_live.specs.hearing.Heard.{is_stop}
use Rattle.reo_command.specs.States.{SinkState, Change}
use Rattle.reo_command.specs.Statuses.{done, part_over, read_fault, too_long, write_fault}
use Rattle.reo_command.specs.top_base.Cases.{Cases, IsExact}
use Rattle.reo_command.specs.top_base.Outputs.{Outputs, IsLine}

-- The line behind the answers.
abbrev pub closing_text : Closing → List ℕ
closing_text over = []
closing_text many = codes "too long events\n"
closing_text missed = codes "read fault events\n"
closing_text ends = []

-- Whether the last of the answers says that a round cannot be planned.
abbrev pub ends_stopped : List Answer → Bool
ends_stopped [] = false
ends_stopped (answer ∷ []) = is_stop answer
ends_stopped (answer ∷ (next ∷ answers)) = ends_stopped (next ∷ answers)

-- The status where nothing further is judged.
abbrev pub last_status : List Answer → ℕ
last_status answers = cond (ends_stopped answers) part_over done

abbrev pub closing_status : Closing → List Answer → ℕ
closing_status over answers = last_status answers
closing_status many answers = too_long
closing_status missed answers = read_fault
closing_status ends answers = last_status answers

-- All answers to the events of a circuit, and the line behind them.
abbrev pub HearsCircuit : ℕ → Events → FlatCircuit → Outputs
HearsCircuit budget events flat bytes code =
    (closing : Closing) × (answers : List Answer)
    × Closes kind_rules flat.ports budget flat.wiring events closing answers
    × IsLine (answers_text flat.ports answers ++ closing_text closing) (closing_status closing answers) bytes code

-- At most one byte more was taken than is heard; where it is said that something is too long, none was taken or so many were.
pub record TakesFew (source : SourceChange) (code : ℕ) : Type 0 where
  pub bytes : List ℕ
  pub taken : AreTakenSoFar source.old source.new bytes
  pub few : length bytes ≤ most_events + 1
  pub long : code ≡ too_long → (bytes ≡ []) ⊎ (length bytes ≡ most_events + 1)

-- Where the source's count of faults has risen, the status says that it failed, or that the sink failed on the line that does.
abbrev pub TellsMisses : SourceChange → ℕ → Type 0
TellsMisses source code = source.old.faults < source.new.faults → (code ≡ read_fault) ⊎ (code ≡ write_fault)

-- What is owed for these events was written, and nothing else is.
pub record IsOwed (budget : ℕ) (flat : FlatCircuit) (events : Events) (sink : Change SinkState) (code : ℕ) : Type 0 where
  pub cases : Cases (HearsCircuit budget events flat) sink code
  pub exact : IsExact (HearsCircuit budget events flat) sink code

-- Some events were taken from a source, and what is owed for them was written, and nothing else is: where no take failed and
-- the source has not said that it ends, whatever may follow them.
pub record IsHeardOn (budget : ℕ) (flat : FlatCircuit) (source : SourceChange) (sink : Change SinkState) (code : ℕ) : Type 0 where
  pub events : Events
  pub taken : AreTaken events source
  pub few : TakesFew source code
  pub misses : TellsMisses source code
  pub cases : Cases (HearsCircuit budget events flat) sink code
  pub exact : IsExact (HearsCircuit budget events flat) sink code
  pub whatever : events.failed ≡ false
      → SaidEnd source ⊎ ((more : List ℕ) → IsOwed budget flat (followed events more) sink code)
