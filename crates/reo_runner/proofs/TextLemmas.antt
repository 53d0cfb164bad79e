-- The text of a trace, line by line.
use Rattle.std.proofs.Common.{◌≡◌, ◌∙◌, ℕ, List, [], ◌∷◌, ◌++◌, ap, sym, subst, append_assoc}
use Rattle.std.proofs.lemmas.List.{append-nil}
use Rattle.std.proofs.lemmas.Grind.{flat_map-append}
use Rattle.std.specs.Prelude.{Option}
use Rattle.reo_net_base.specs.declared.port.Port.{Port}
use Rattle.reo_io.specs.Sinks.{Appended, TookPart}
use Rattle.reo_io.proofs.Taken.{Appended-append, TookPart-after, TookPart-more}
use Rattle.reo_trace.specs.declared.line.RoundLine.{RoundLine}
use Rattle.reo_trace.specs.declared.line.Ending.{Ending}
use Rattle.reo_trace.specs.RoundText.{round_text}
use Rattle.reo_trace.specs.EndingText.{ending_text}
use Rattle.reo_trace.specs.TraceText.{rounds_text, trace_text}
use Rattle.reo_runs.specs.Written.{next_text}

-- The text of one line more.
text_more : (ports : List Port) (lines : List RoundLine) (line : RoundLine) → rounds_text ports (lines ++ line ∷ []) ≡ rounds_text ports lines ++ round_text ports line
text_more ports lines line = flat_map-append (round_text ports) lines (line ∷ []) ∙ ap (λ z. rounds_text ports lines ++ z) (append-nil (round_text ports line))

pub text_on : (ports : List Port) (before mid now : Option (List ℕ)) (lines : List RoundLine) (line : RoundLine) → Appended before mid (rounds_text ports lines) → Appended mid now (round_text ports line) → Appended before now (rounds_text ports (lines ++ line ∷ []))
text_on ports before mid now lines line p q = subst (λ z. Appended before now z) (sym (text_more ports lines line)) (Appended-append before mid now _ _ p q)

-- What follows the next line in a trace.
abbrev past_next : List Port → List RoundLine → Ending → List ℕ
past_next ports [] ending = []
past_next ports (line ∷ rest) ending = rounds_text ports rest ++ ending_text ending

-- A trace is the text of its first lines, the next line, and what follows.
trace_split : (ports : List Port) (lines rest : List RoundLine) (ending : Ending)
    → trace_text ports (lines ++ rest) ending ≡ (rounds_text ports lines ++ next_text ports rest ending) ++ past_next ports rest ending
trace_split ports lines [] ending = ap (λ (ls : List RoundLine). trace_text ports ls ending) (append-nil lines) ∙ sym (append-nil (rounds_text ports lines ++ ending_text ending))
trace_split ports lines (line ∷ rest) ending =
    let first : List ℕ = rounds_text ports lines in
    let next : List ℕ = round_text ports line in
    let others : List ℕ = rounds_text ports rest in
    ap (λ (z : List ℕ). z ++ ending_text ending) (flat_map-append (round_text ports) lines (line ∷ rest) ∙ sym (append_assoc first next others)) ∙ append_assoc (first ++ next) others (ending_text ending)

-- Lines of a trace, and a part of the next, are a front of the trace.
pub front_of : (ports : List Port) (before mid now : Option (List ℕ)) (lines rest : List RoundLine) (ending : Ending) → Appended before mid (rounds_text ports lines)
    → TookPart mid now (next_text ports rest ending) → TookPart before now (trace_text ports (lines ++ rest) ending)
front_of ports before mid now lines rest ending text part =
    subst (λ (z : List ℕ). TookPart before now z) (sym (trace_split ports lines rest ending))
    (TookPart-more before now _ (past_next ports rest ending) (TookPart-after before mid now (rounds_text ports lines) (next_text ports rest ending) text part))
