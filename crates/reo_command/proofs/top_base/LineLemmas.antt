-- Lines end with a line feed.
use Rattle.std.proofs.Common.{◌≡◌, ◌∙◌, ◌⊎◌, inl, inr, ℕ, List, [], ◌∷◌, ◌++◌, ap, sym, refl, append_assoc}
use Rattle.std.proofs.lemmas.List.{append-nil}
use Rattle.std.specs.Prelude.{codes}
use Rattle.std.specs.Fmt.{decimal}
use Rattle.reo_net_base.specs.declared.port.Port.{Port}
use Rattle.reo_trace.specs.declared.line.RoundLine.{RoundLine}
use Rattle.reo_trace.specs.RoundText.{round_text, moves_text, entry_text}
use Rattle.reo_trace.specs.Spaced.{spaced}
use Rattle.reo_trace.specs.TraceText.{rounds_text}

-- Bytes that end with a line feed.
abbrev pub Ends : List ℕ → Type 0
Ends bytes = (front : List ℕ) × (bytes ≡ front ++ codes "\n")

pub after : (first rest : List ℕ) → Ends rest → Ends (first ++ rest)
after first rest (front, is) = (first ++ front, ap (λ (z : List ℕ). first ++ z) is ∙ sym (append_assoc first front (codes "\n")))

pub round_ends : (ports : List Port) (line : RoundLine) → Ends (round_text ports line)
unfolding round_text
round_ends ports line =
    after (codes "round ") _ (after (decimal line.round) _ (after (codes ": ") _ (after (moves_text ports line.idle line.moves) _ (after (codes " | ") _ (spaced entry_text line.entries, refl)))))

lines_end : (ports : List Port) (line : RoundLine) (lines : List RoundLine) → Ends (rounds_text ports (line ∷ lines))
lines_end ports line [] = let e = round_ends ports line in (e.0, append-nil (round_text ports line) ∙ e.1)
lines_end ports line (next ∷ lines) = after (round_text ports line) (rounds_text ports (next ∷ lines)) (lines_end ports next lines)

-- No bytes, or bytes that end with a line feed.
pub rounds_end : (ports : List Port) (lines : List RoundLine) → (rounds_text ports lines ≡ []) ⊎ Ends (rounds_text ports lines)
rounds_end ports [] = inl refl
rounds_end ports (line ∷ lines) = inr (lines_end ports line lines)
