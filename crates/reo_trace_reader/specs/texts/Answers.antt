-- What reading a text answers.
use Rattle.std.specs.Prelude.{ℕ, ◌≡◌, List, Result, Ok, Err}
use Rattle.reo_net_base.specs.declared.port.Port.{Port}
use Rattle.reo_trace.specs.declared.line.RoundLine.{RoundLine}
use Rattle.reo_trace.specs.declared.line.Ending.{Ending}
use Rattle.reo_trace_reader.specs.declared.texts.trace.Trace.{Trace}
use Rattle.reo_trace_reader.specs.declared.texts.trace.TraceLine.{TraceLine}
use Rattle.reo_trace_reader.specs.declared.texts.trace.TraceLine.TheVariants as lines
use Rattle.reo_trace_reader.specs.declared.texts.fault.TraceFault.{TraceFault}
use Rattle.reo_trace_reader.specs.declared.texts.fault.TraceFault.TheVariants as faults
use Rattle.reo_trace_reader.specs.declared.texts.fault.LineFault.{LineFault}
use Rattle.reo_trace_reader.specs.declared.texts.fault.LineFault.TheVariants as forms
use Rattle.reo_trace_reader.specs.texts.Texts.{IsTraceText, IsWrongLine, IsRoundText, IsEndingText}

-- The answer to a text: the trace that it is, or its first wrong line.
abbrev pub Answers : List Port → List ℕ → Result Trace TraceFault → Type 0
Answers ports text (Ok t) = IsTraceText ports text t
Answers ports text (Err (faults.Line line)) = IsWrongLine ports text line
Answers ports text (Err faults.NoMemory) = ⊥

-- It is answered so, or out of memory.
abbrev pub IsRead : List Port → List ℕ → Result Trace TraceFault → Type 0
IsRead ports text (Err faults.NoMemory) = Unit {0}
IsRead ports text r = Answers ports text r

-- What was answered is this answer, or out of memory.
abbrev pub IsThis : Result Trace TraceFault → Result Trace TraceFault → Type 0
IsThis answer (Err faults.NoMemory) = Unit {0}
IsThis answer r = r ≡ answer

-- The answer to one line: the line of a round or the ending that it is, or that it is neither.
abbrev pub LineAnswers : List Port → List ℕ → Result TraceLine LineFault → Type 0
LineAnswers ports text (Ok (lines.Round line)) = IsRoundText ports text line
LineAnswers ports text (Ok (lines.Ending ending)) = IsEndingText text ending
LineAnswers ports text (Err forms.Form) =
    ((line : RoundLine) → IsRoundText ports text line → ⊥) × ((ending : Ending) → IsEndingText text ending → ⊥)
LineAnswers ports text (Err forms.NoMemory) = ⊥

-- It is answered so, or out of memory.
abbrev pub IsLineRead : List Port → List ℕ → Result TraceLine LineFault → Type 0
IsLineRead ports text (Err forms.NoMemory) = Unit {0}
IsLineRead ports text r = LineAnswers ports text r

-- What was answered is this answer, or out of memory.
abbrev pub IsThisLine : Result TraceLine LineFault → Result TraceLine LineFault → Type 0
IsThisLine answer (Err forms.NoMemory) = Unit {0}
IsThisLine answer r = r ≡ answer
