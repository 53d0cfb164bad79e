-- Logs that there are.
use Rattle.std.specs.Prelude.{ℕ, ◌<◌, ◌^◌, ◌≡◌, List, Option, length}
use Rattle.std.specs.List.{All}
use Rattle.reo_values.specs.declared.value.Value.{Value}
use Rattle.reo_net_base.specs.First.{IsFirst}
use Rattle.reo_net_base.specs.Net.{Net}
use Rattle.reo_net_base.specs.Wired.{IsWired, IsOrder}
use Rattle.reo_weights.specs.Over.{Cause, IsOver}
use Rattle.reo_refute_base.specs.RightTexts.{IsRightText}
use Rattle.reo_refute_base.specs.Wide.{IsWide}
use Rattle.reo_refute_base.specs.faults.Faults.{IsProof}
use Rattle.reo_proof_texts.specs.Cuts.{IsLogLine, lines_text}

-- Fewer than 2^31 primitives, and fewer than 2^31 joints.
pub record IsSized (net : Net) : Type 0 where
  pub primitives : length net.primitives < 2 ^ 31
  pub joints : length net.joints < 2 ^ 31

-- Where no part is over a budget, at no joint can more than 256 items stand.
abbrev pub WithinIsNarrow : Type 0
WithinIsNarrow = (budget : ℕ) (net : Net) → IsWired net → (order : List ℕ) → IsOrder net order
    → ((cause : Cause) → IsOver budget net cause → ⊥) → IsWide net → ⊥

-- Lines of a log with this text.
pub record IsCutInLines (text : List ℕ) (lines : List (List ℕ)) : Type 0 where
  pub are_lines : All IsLogLine lines
  pub text_is : text ≡ lines_text lines

-- The text of a right log is that of whole lines, none of which ends a log.
abbrev pub LogsAreLines : Type 0
LogsAreLines = (net : Net) (turn : ℕ) (given text : List ℕ) → IsRightText net turn given text
    → (lines : List (List ℕ)) × IsCutInLines text lines

-- Lines of a log that shows that no colouring stands before these rows.
pub record IsLogFor (net : Net) (turn : ℕ) (rows : List ℕ) (lines : List (List ℕ)) : Type 0 where
  pub are_lines : All IsLogLine lines
  pub proof : IsProof net turn rows (lines_text lines)

-- In a circuit of which no joint is wide, the rows of the first colouring have a log.
abbrev pub FirstsHaveLogs : Type 0
FirstsHaveLogs = (net : Net) → IsWired net → (order : List ℕ) → IsOrder net order → IsSized net
    → (IsWide net → ⊥) → (turn : ℕ) (rows : List ℕ) (items : List (Option Value))
    → IsFirst net turn rows items → (lines : List (List ℕ)) × IsLogFor net turn rows lines
