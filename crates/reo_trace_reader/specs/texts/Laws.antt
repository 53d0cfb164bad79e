-- Texts tell their traces.
use Rattle.std.specs.Prelude.{ℕ, ◌≡◌, List, Result}
use Rattle.reo_net_base.specs.declared.port.Port.{Port}
use Rattle.reo_trace_reader.specs.declared.texts.trace.Trace.{Trace}
use Rattle.reo_trace_reader.specs.declared.texts.trace.TraceLine.{TraceLine}
use Rattle.reo_trace_reader.specs.declared.texts.fault.TraceFault.{TraceFault}
use Rattle.reo_trace_reader.specs.declared.texts.fault.LineFault.{LineFault}
use Rattle.reo_trace_reader.specs.texts.Lines.{AreTold}
use Rattle.reo_trace_reader.specs.texts.Texts.{IsTraceText, IsWrongLine}
use Rattle.reo_trace_reader.specs.texts.Answers.{Answers, LineAnswers}

-- No text is two traces.
abbrev pub OneTraceOfText : Type 0
OneTraceOfText = (ports : List Port) (text : List ℕ) (t u : Trace) → AreTold ports → IsTraceText ports text t → IsTraceText ports text u → t ≡ u

-- A trace has no wrong line.
abbrev pub TraceHasNoWrongLine : Type 0
TraceHasNoWrongLine = (ports : List Port) (text : List ℕ) (t : Trace) (line : ℕ) → AreTold ports → IsTraceText ports text t → IsWrongLine ports text line → ⊥

-- A text has one first wrong line.
abbrev pub OneWrongLine : Type 0
OneWrongLine = (ports : List Port) (text : List ℕ) (line other : ℕ) → AreTold ports → IsWrongLine ports text line → IsWrongLine ports text other → line ≡ other

-- A text has one answer.
abbrev pub OneAnswer : Type 0
OneAnswer = (ports : List Port) (text : List ℕ) (a b : Result Trace TraceFault) → AreTold ports → Answers ports text a → Answers ports text b → a ≡ b

-- And so has a line.
abbrev pub OneLineAnswer : Type 0
OneLineAnswer = (ports : List Port) (text : List ℕ) (a b : Result TraceLine LineFault) → AreTold ports → LineAnswers ports text a → LineAnswers ports text b → a ≡ b
