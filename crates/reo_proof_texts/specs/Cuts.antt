-- Proof texts, cut into rounds.
use Rattle.std.specs.Prelude.{ℕ, ◌+◌, ◌≡◌, ◌≢◌, ◌⊎◌, List, [], ◌∷◌, ◌++◌, codes, length}
use Rattle.std.specs.List.{All, flat_map}
use Rattle.reo_net_base.specs.declared.port.Port.{Port}
use Rattle.reo_trace.specs.declared.line.RoundLine.{RoundLine}
use Rattle.reo_trace.specs.declared.line.Ending.{Ending}
use Rattle.reo_trace.specs.EndingText.{ending_text}
use Rattle.reo_trace.specs.RoundText.{round_text}
use Rattle.reo_trace_reader.specs.texts.Lines.{IsLine, IsEnding}

-- No line feed.
abbrev pub IsInLine : ℕ → Type 0
IsInLine byte = byte ≢ 10

-- A line of a log, without its line feed: any line but the one that ends the log.
pub record IsLogLine (line : List ℕ) : Type 0 where
  pub one_line : All IsInLine line
  pub not_last : line ≢ codes "proved"

-- The text of lines, each with a line feed behind it.
abbrev pub lines_text : List (List ℕ) → List ℕ
lines_text lines = flat_map (λ line. line ++ codes "\n") lines

-- A round with its log: the round's line, and the lines of the log.
pub record LoggedRound : Type 0 where
  pub line : RoundLine
  pub log : List (List ℕ)

-- The text of a round with its log, at the end of which stands `proved`.
abbrev pub logged_text : List Port → LoggedRound → List ℕ
logged_text ports x = round_text ports x.line ++ (lines_text x.log ++ codes "proved\n")

-- The text of rounds with their logs.
abbrev pub all_logged : List Port → List LoggedRound → List ℕ
all_logged ports xs = flat_map (logged_text ports) xs

-- How many lines that text has.
abbrev pub lines_in : List LoggedRound → ℕ
lines_in [] = 0
lines_in (x ∷ xs) = length x.log + 2 + lines_in xs

-- The round of a number with its log.
pub record IsLogged (ports : List Port) (number : ℕ) (x : LoggedRound) : Type 0 where
  pub line : IsLine ports number x.line
  pub log : All IsLogLine x.log

-- The rounds of the numbers from this one on, with their logs.
abbrev pub AreLogged : List Port → ℕ → List LoggedRound → Type 0
AreLogged ports number [] = Unit {0}
AreLogged ports number (x ∷ xs) = IsLogged ports number x × AreLogged ports (number + 1) xs

-- The text neither begins with the line of the round of this number nor is an ending.
pub record HasNone (ports : List Port) (number : ℕ) (text : List ℕ) : Type 0 where
  pub no_round : (line : RoundLine) (more : List ℕ) → IsLine ports number line
      → text ≡ round_text ports line ++ more → ⊥
  pub no_ending : (ending : Ending) → IsEnding ending → text ≡ ending_text ending → ⊥

-- The text begins with the line of the round of this number, and no line `proved` follows: this is
-- the line behind the last that ends with a line feed.
pub record IsOpen (ports : List Port) (number : ℕ) (text : List ℕ) (line : ℕ) : Type 0 where
  pub round : RoundLine
  pub is_round : IsLine ports number round
  pub log : List (List ℕ)
  pub last : List ℕ
  pub cut : text ≡ round_text ports round ++ (lines_text log ++ last)
  pub log_lines : All IsLogLine log
  pub unfinished : All IsInLine last
  pub line_is : line ≡ length log + 2

-- What stands next in a proof text: a round with its log, and what follows; an ending, behind which
-- nothing follows; or a wrong line, counted from here.
pub data Next : Type 0 where
  round : LoggedRound → List ℕ → Next
  ending : Ending → Next
  wrong : ℕ → Next

-- This stands next, where the round of a number should.
abbrev pub IsNext : List Port → ℕ → List ℕ → Next → Type 0
IsNext ports number text (Next.round x more) =
    IsLogged ports number x × (text ≡ logged_text ports x ++ more)
IsNext ports number text (Next.ending e) = IsEnding e × (text ≡ ending_text e)
IsNext ports number text (Next.wrong line) =
    ((line ≡ 1) × HasNone ports number text) ⊎ IsOpen ports number text line
