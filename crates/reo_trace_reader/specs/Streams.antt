-- Traces that are read line by line.
use Rattle.std.specs.Prelude.{ℕ, ◌≡◌, List, [], ◌∷◌, Option, Some, None}
use Rattle.reo_net_base.specs.declared.port.Port.{Port}
use Rattle.reo_trace.specs.declared.line.Ending.{Ending}
use Rattle.reo_trace.specs.declared.line.RoundLine.{RoundLine}
use Rattle.reo_trace.specs.TraceText.{trace_text}
use Rattle.reo_trace_reader.specs.declared.texts.fault.TraceFault.{TraceFault}
use Rattle.reo_trace_reader.specs.declared.texts.fault.TraceFault.TheVariants as faults
use Rattle.reo_trace_reader.specs.declared.texts.trace.Trace.{Trace}
use Rattle.reo_trace_reader.specs.texts.Lines.{AreTold, AreLines, IsEnding}
use Rattle.reo_trace_reader.specs.texts.Texts.{IsTraceText, IsWrongLine}

-- The text is that of this trace, for ports of a circuit that is accepted.
pub record IsToldText (ports : List Port) (text : List ℕ) (t : Trace) : Type 0 where
  pub told : AreTold ports
  pub is_text : IsTraceText ports text t

-- What is left of a text is these lines, from that of the round of a number on, and an ending.
pub record AreLeft (ports : List Port) (number : ℕ) (text : List ℕ) (lines : List RoundLine) : Type 0 where
  pub told : AreTold ports
  pub ending : Ending
  pub text_is : text ≡ trace_text ports lines ending
  pub right : AreLines ports number lines
  pub is_ending : IsEnding ending

-- The first of some lines was taken, or there was none.
abbrev pub IsTaken : List RoundLine → List RoundLine → Option RoundLine → Type 0
IsTaken old new (Some line) = old ≡ line ∷ new
IsTaken old new None = (old ≡ []) × (new ≡ [])

-- Why the text is no trace, or memory ran out.
abbrev pub IsFaultOf : List Port → List ℕ → TraceFault → Type 0
IsFaultOf ports text (faults.Line line) = IsWrongLine ports text line
IsFaultOf ports text faults.NoMemory = Unit {0}
