-- Texts and lines have one answer.
use Rattle.std.proofs.Common.{◌≡◌, ◌∙◌, ℕ, List, [], Ok, Err, ap, refl, sym, append-nil}
use Rattle.reo_net_base.specs.declared.port.Port.{Port}
use Rattle.reo_trace.specs.declared.line.Ending.{Ending}
use Rattle.reo_trace.specs.declared.line.RoundLine.{RoundLine}
use Rattle.reo_trace.specs.RoundText.{round_text}
use Rattle.reo_trace_reader.specs.declared.texts.trace.TraceLine.TheVariants as lines
use Rattle.reo_trace_reader.specs.declared.texts.fault.TraceFault.TheVariants as faults
use Rattle.reo_trace_reader.specs.declared.texts.fault.LineFault.TheVariants as forms
use Rattle.reo_trace_reader.specs.texts.Laws.{OneAnswer, OneLineAnswer}
use Rattle.reo_trace_reader.specs.texts.Lines.{AreTold}
use Rattle.reo_trace_reader.specs.texts.Texts.{IsRoundText, IsEndingText}
use Rattle.reo_trace_reader.proofs.texts.Endings.{ending_unique, line_no-ending}
use Rattle.reo_trace_reader.proofs.texts.RoundLines.{line_unique}
use Rattle.reo_trace_reader.proofs.texts.Traces.{one_trace, no_wrong, one_wrong}

pub one_answer_of-text : OneAnswer
one_answer_of-text ports text (Ok t) (Ok u) told h g = ap Ok (one_trace ports told text t u h g)
one_answer_of-text ports text (Ok t) (Err (faults.Line n)) told h g = absurd (no_wrong ports told text t n h g)
one_answer_of-text ports text (Ok t) (Err faults.NoMemory) told h g = absurd g
one_answer_of-text ports text (Err (faults.Line n)) (Ok u) told h g = absurd (no_wrong ports told text u n g h)
one_answer_of-text ports text (Err (faults.Line m)) (Err (faults.Line n)) told h g = ap (λ k. Err (faults.Line k)) (one_wrong ports told text m n h g)
one_answer_of-text ports text (Err (faults.Line m)) (Err faults.NoMemory) told h g = absurd g
one_answer_of-text ports text (Err faults.NoMemory) b told h g = absurd h

-- no line is that of two rounds
pub one_round : (ports : List Port) (told : AreTold ports) (text : List ℕ) (a b : RoundLine) → IsRoundText ports text a → IsRoundText ports text b → a ≡ b
one_round ports told text a b h g =
    (line_unique ports told a.round b.round a b [] [] h.fits g.fits (append-nil (round_text ports a) ∙ sym h.text_is ∙ g.text_is ∙ sym (append-nil (round_text ports b)))).0

-- nor that of a round and an ending
pub round_no-end : (ports : List Port) (text : List ℕ) (a : RoundLine) (b : Ending) → IsRoundText ports text a → IsEndingText text b → ⊥
round_no-end ports text a b h g = line_no-ending ports a [] b (sym g.text_is ∙ h.text_is ∙ sym (append-nil (round_text ports a)))

pub one_ending : (text : List ℕ) (a b : Ending) → IsEndingText text a → IsEndingText text b → a ≡ b
one_ending text a b h g = ending_unique a b h.fits g.fits (sym h.text_is ∙ g.text_is)

pub one_line_answer-of_text : OneLineAnswer
one_line_answer-of_text ports text (Ok (lines.Round a)) (Ok (lines.Round b)) told h g = ap (λ l. Ok (lines.Round l)) (one_round ports told text a b h g)
one_line_answer-of_text ports text (Ok (lines.Round a)) (Ok (lines.Ending b)) told h g = absurd (round_no-end ports text a b h g)
one_line_answer-of_text ports text (Ok (lines.Round a)) (Err forms.Form) told h g = absurd (g.0 a h)
one_line_answer-of_text ports text (Ok (lines.Round a)) (Err forms.NoMemory) told h g = absurd g
one_line_answer-of_text ports text (Ok (lines.Ending a)) (Ok (lines.Round b)) told h g = absurd (round_no-end ports text b a g h)
one_line_answer-of_text ports text (Ok (lines.Ending a)) (Ok (lines.Ending b)) told h g = ap (λ l. Ok (lines.Ending l)) (one_ending text a b h g)
one_line_answer-of_text ports text (Ok (lines.Ending a)) (Err forms.Form) told h g = absurd (g.1 a h)
one_line_answer-of_text ports text (Ok (lines.Ending a)) (Err forms.NoMemory) told h g = absurd g
one_line_answer-of_text ports text (Err forms.Form) (Ok (lines.Round b)) told h g = absurd (h.0 b g)
one_line_answer-of_text ports text (Err forms.Form) (Ok (lines.Ending b)) told h g = absurd (h.1 b g)
one_line_answer-of_text ports text (Err forms.Form) (Err forms.Form) told h g = refl
one_line_answer-of_text ports text (Err forms.Form) (Err forms.NoMemory) told h g = absurd g
one_line_answer-of_text ports text (Err forms.NoMemory) b told h g = absurd h
