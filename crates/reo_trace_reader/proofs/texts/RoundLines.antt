-- A round line at the front of a text is told from it.
use Rattle.std.proofs.Common.{◌≡◌, ◌∙◌, ◌<◌, ◌^◌, ℕ, List, ◌∷◌, ◌++◌, drop, ap, sym, append_assoc, arith}
use Rattle.std.specs.Prelude.{codes}
use Rattle.std.specs.Fmt.{decimal}
use Rattle.std.proofs.lemmas.List.{append_cancel_left}
use Rattle.reo_net_base.specs.declared.port.Port.{Port}
use Rattle.reo_trace.specs.declared.line.RoundLine.{RoundLine}
use Rattle.reo_trace.specs.RoundText.{moves_text, entry_text, round_text}
use Rattle.reo_trace.specs.Spaced.{spaced}
use Rattle.reo_trace_reader.proofs.Digits.{colon_no_digit, decimal_unique}
use Rattle.reo_trace_reader.specs.texts.Lines.{AreTold, IsLine}
use Rattle.reo_trace_reader.proofs.texts.Moves.{AreMoves, moves_unique}
use Rattle.reo_trace_reader.proofs.texts.Entries.{entries_unique}

-- the text after the number of the round, and that after the moves
abbrev pub after_number : List Port → RoundLine → List ℕ → List ℕ
after_number ports line more = codes ": " ++ (moves_text ports line.idle line.moves ++ (codes " | " ++ (spaced entry_text line.entries ++ (10 ∷ more))))

-- a round line with what comes after it
pub line_text : (ports : List Port) (line : RoundLine) (more : List ℕ) → round_text ports line ++ more ≡ codes "round " ++ (decimal line.round ++ after_number ports line more)
unfolding round_text
line_text ports line more = simp append_assoc

-- rounds of a trace have numbers of 64 bits
pub number_fits : (ports : List Port) (n : ℕ) (line : RoundLine) → IsLine ports n line → line.round < 2 ^ 64
number_fits ports n line h = let same = h.number_is in let small = h.small in omega arith

module _ (ports : List Port) (told : AreTold ports) where
  pub moves_of : (n : ℕ) (line : RoundLine) → IsLine ports n line → AreMoves ports told line.idle line.moves
  moves_of n line h = record { each = h.moves; still = h.still }

  -- a round line, and what comes after it
  pub line_unique : (m n : ℕ) (a b : RoundLine) (r s : List ℕ) → IsLine ports m a → IsLine ports n b → round_text ports a ++ r ≡ round_text ports b ++ s → (a ≡ b) × (r ≡ s)
  line_unique m n a b r s h g e =
      let whole = append_cancel_left (codes "round ") _ _ (sym (line_text ports a r) ∙ e ∙ line_text ports b s) in
      let number = decimal_unique a.round b.round (after_number ports a r) (after_number ports b s) (number_fits ports m a h) (number_fits ports n b g) colon_no_digit colon_no_digit whole in
      let moves = moves_unique ports told a.idle b.idle a.moves b.moves (spaced entry_text a.entries ++ (10 ∷ r)) (spaced entry_text b.entries ++ (10 ∷ s))
      (moves_of m a h) (moves_of n b g) (ap (λ l. drop 2 l) number.1) in
      let entries = entries_unique a.entries b.entries r s h.entries g.entries moves.2 in
      ((λ i. record { round = number.0 i; idle = moves.0 i; moves = moves.1 i; entries = entries.0 i }), entries.1)
