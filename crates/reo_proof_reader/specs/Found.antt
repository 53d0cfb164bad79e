-- What was found next in a proof text.
use Rattle.std.specs.Prelude.{ℕ, ◌≡◌, List, length}
use Rattle.reo_net_base.specs.declared.port.Port.{Port}
use Rattle.reo_trace.specs.declared.line.RoundLine.{RoundLine}
use Rattle.reo_proof_texts.specs.Cuts.{lines_text, IsNext, Next as Stands}
use Rattle.reo_proof_reader.specs.declared.next.Next.{Next}
use Rattle.reo_proof_reader.specs.declared.next.Next.TheVariants as found

-- A round with its log stood next, and was taken: this is the text of the log, and it has so many lines.
pub record IsRoundFound (ports : List Port) (number : ℕ) (old new : List ℕ) (line : RoundLine)
    (text : List ℕ) (count : ℕ) : Type 0 where
  pub log : List (List ℕ)
  pub text_is : text ≡ lines_text log
  pub count_is : count ≡ length log
  pub next_is : IsNext ports number old (Stands.round (record { line = line; log = log }) new)

-- This stood next.
abbrev pub IsFound : List Port → ℕ → List ℕ → List ℕ → Next → Type 0
IsFound ports number old new (found.Round line log lines) =
    IsRoundFound ports number old new line log.now lines
IsFound ports number old new (found.Ending ending) = IsNext ports number old (Stands.ending ending)
IsFound ports number old new (found.Wrong line) = IsNext ports number old (Stands.wrong line)
