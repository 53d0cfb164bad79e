-- Round lines at the front of a text.
use Rattle.std.proofs.Common.{◌≡◌, ◌∙◌, ℕ, List, ◌++◌, ap, refl, sym, append_assoc}
use Rattle.reo_net_base.specs.declared.port.Port.{Port}
use Rattle.reo_trace.specs.declared.line.RoundLine.{RoundLine}
use Rattle.reo_trace.specs.RoundText.{entry_text}
use Rattle.reo_trace.specs.Spaced.{spaced}
use Rattle.reo_values.specs.decimals.Digits.{IsSmall}
use Rattle.reo_trace_reader.specs.texts.Lines.{IsEntry}
use Rattle.std.specs.List.{All}
use Rattle.reo_trace_reader.specs.declared.moves.PortFlows.{PortFlows}
use Rattle.reo_trace_reader.specs.Fronts.{AreFlows, IsAnyLine, flows_text, heading_text, round_front}

abbrev pub flows_of : RoundLine → PortFlows
flows_of line = record { idle = line.idle; moves = line.moves }

-- the parts of a round line
pub round_parts : (ports : List Port) (old : List ℕ) (line : RoundLine) (rest : List ℕ) → IsAnyLine ports line → old ≡ round_front ports line ++ rest
    → (old ≡ heading_text line.round ++ (flows_text ports (flows_of line) ++ (spaced entry_text line.entries ++ rest))) × AreFlows ports (flows_of line)
unfolding round_front
round_parts ports old line rest h e = (
  e ∙ append_assoc (heading_text line.round) (flows_text ports (flows_of line) ++ spaced entry_text line.entries) rest
      ∙ ap (λ l. heading_text line.round ++ l) (append_assoc (flows_text ports (flows_of line)) (spaced entry_text line.entries) rest),
  record { moves = h.moves; rising = h.rising; still = h.still },
)

-- a line is made of its parts
pub round_stood : (ports : List Port) (old mid left new : List ℕ) (line : RoundLine) → IsSmall line.round → AreFlows ports (flows_of line) → All IsEntry line.entries
    → old ≡ heading_text line.round ++ mid → mid ≡ flows_text ports (flows_of line) ++ left → left ≡ spaced entry_text line.entries ++ new
    → IsAnyLine ports line × (old ≡ round_front ports line ++ new)
unfolding round_front
round_stood ports old mid left new line small flows entries e f g = (
  record { number_is = refl; small = small; moves = flows.moves; rising = flows.rising; still = flows.still; entries = entries },
  e ∙ ap (λ l. heading_text line.round ++ l) (f ∙ ap (λ l. flows_text ports (flows_of line) ++ l) g ∙ sym (append_assoc (flows_text ports (flows_of line)) (spaced entry_text line.entries) new))
      ∙ sym (append_assoc (heading_text line.round) (flows_text ports (flows_of line) ++ spaced entry_text line.entries) new),
)
