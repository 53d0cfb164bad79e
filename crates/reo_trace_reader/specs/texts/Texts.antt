-- Texts that are traces, and texts that are none.
use Rattle.std.specs.Prelude.{ℕ, ◌+◌, ◌≡◌, List, ◌++◌, codes, length}
use Rattle.reo_net_base.specs.declared.port.Port.{Port}
use Rattle.reo_trace.specs.declared.line.RoundLine.{RoundLine}
use Rattle.reo_trace.specs.declared.line.Ending.{Ending}
use Rattle.reo_trace.specs.EndingText.{ending_text}
use Rattle.reo_trace.specs.RoundText.{round_text}
use Rattle.reo_trace.specs.TraceText.{rounds_text, trace_text}
use Rattle.reo_trace_reader.specs.declared.texts.trace.Trace.{Trace}
use Rattle.reo_trace_reader.specs.texts.Lines.{IsLine, AreLines, IsEnding}

-- The text is that of this trace: the lines of the rounds 1, 2, 3 and so on, and one ending.
pub record IsTraceText (ports : List Port) (text : List ℕ) (t : Trace) : Type 0 where
  pub text_is : text ≡ trace_text ports t.rounds t.ending
  pub lines : AreLines ports 1 t.rounds
  pub ending : IsEnding t.ending

-- The text is no trace, and this is its first wrong line: the lines before it are those of the first rounds, and what is left
-- neither begins with the line of the next round nor is an ending.
pub record IsWrongLine (ports : List Port) (text : List ℕ) (wrong : ℕ) : Type 0 where
  pub lines : List RoundLine
  pub left : List ℕ
  pub cut : text ≡ rounds_text ports lines ++ left
  pub right : AreLines ports 1 lines
  pub place : wrong ≡ length lines + 1
  pub no_round : (line : RoundLine) (more : List ℕ) → IsLine ports wrong line → left ≡ round_text ports line ++ more → ⊥
  pub no_ending : (ending : Ending) → IsEnding ending → left ≡ ending_text ending → ⊥

-- The line, which has no line feed, is that of a round.
pub record IsRoundText (ports : List Port) (text : List ℕ) (line : RoundLine) : Type 0 where
  pub fits : IsLine ports line.round line
  pub text_is : text ++ codes "\n" ≡ round_text ports line

-- The line, which has no line feed, is an ending.
pub record IsEndingText (text : List ℕ) (ending : Ending) : Type 0 where
  pub fits : IsEnding ending
  pub text_is : text ++ codes "\n" ≡ ending_text ending
