-- Traces that are read line by line.
use Rattle.std.proofs.Common.{◌≡◌, ◌∙◌, ◌+◌, ℕ, List, [], ◌∷◌, ◌++◌, drop, Result, Err, refl, sym, append_assoc}
use Rattle.reo_net_base.specs.declared.port.Port.{Port}
use Rattle.reo_trace.specs.declared.line.RoundLine.{RoundLine}
use Rattle.reo_trace.specs.EndingText.{ending_text}
use Rattle.reo_trace.specs.RoundText.{round_text}
use Rattle.reo_trace.specs.TraceText.{rounds_text}
use Rattle.reo_trace_reader.specs.declared.texts.trace.Trace.{Trace}
use Rattle.reo_trace_reader.specs.declared.texts.fault.TraceFault.{TraceFault}
use Rattle.reo_trace_reader.specs.declared.texts.fault.TraceFault.TheVariants as faults
use Rattle.reo_trace_reader.specs.texts.Answers.{Answers, IsThis}
use Rattle.reo_trace_reader.specs.texts.Laws.{OneAnswer}
use Rattle.reo_trace_reader.specs.texts.Lines.{AreTold, IsLine}
use Rattle.reo_trace_reader.specs.Fronts.{NoRound}
use Rattle.reo_trace_reader.specs.Streams.{IsToldText, AreLeft, IsFaultOf}
use Rattle.reo_trace_reader.proofs.texts.Endings.{line_no-ending}
use Rattle.reo_trace_reader.proofs.texts.RoundLines.{line_unique}

-- at first all lines are left
pub all_left : (ports : List Port) (text : List ℕ) (t : Trace) → IsToldText ports text t → AreLeft ports 1 text t.rounds
all_left ports text t is = record {
  told = is.told;
  ending = t.ending;
  text_is = is.is_text.text_is;
  right = is.is_text.lines;
  is_ending = is.is_text.ending;
}

module _ (ports : List Port) (number : ℕ) (text : List ℕ) where
  -- a line that stands next is the first of those that are left
  pub left_some : (new : List ℕ) (line : RoundLine) (lines : List RoundLine) → AreLeft ports number text lines → IsLine ports number line → text ≡ round_text ports line ++ new
      → (lines ≡ line ∷ drop 1 lines) × AreLeft ports (number + 1) new (drop 1 lines)
  left_some new line [] left is e = absurd (line_no-ending ports line new left.ending (sym left.text_is ∙ e))
  left_some new line (x ∷ xs) left is e =
      let more : List ℕ = rounds_text ports xs ++ ending_text left.ending in
      let first = sym (append_assoc (round_text ports x) (rounds_text ports xs) (ending_text left.ending)) ∙ sym left.text_is ∙ e in
      let same = line_unique ports left.told number number x line more new left.right.0 is first in (
        (λ i. same.0 i ∷ xs),
        record { told = left.told; ending = left.ending; text_is = sym same.1; right = left.right.1; is_ending = left.is_ending },
      )

  -- where no line stands next none is left
  pub left_none : (lines : List RoundLine) → AreLeft ports number text lines → NoRound ports number text → lines ≡ []
  left_none [] left none = refl
  left_none (x ∷ xs) left none =
      absurd (none x (rounds_text ports xs ++ ending_text left.ending) left.right.0 (left.text_is ∙ append_assoc (round_text ports x) (rounds_text ports xs) (ending_text left.ending)))

-- a text that is no trace has one answer
pub fault_only : (ports : List Port) (text : List ℕ) (fault : TraceFault) → OneAnswer → AreTold ports → IsFaultOf ports text fault
    → (answer : Result Trace TraceFault) → Answers ports text answer → IsThis answer (Err fault)
fault_only ports text (faults.Line line) one told wrong answer is = one ports text (Err (faults.Line line)) answer told wrong is
fault_only ports text faults.NoMemory one told wrong answer is = tt
