-- Lines that are taken from a proof text.
use Rattle.std.specs.Prelude.{ℕ, ◌<◌, ◌^◌, ◌≡◌, List, ◌∷◌, ◌++◌, codes, length, take, slice_index}
use Rattle.std.specs.List.{All}
use Rattle.reo_proof_texts.specs.Cuts.{IsInLine, IsLogLine, lines_text}

-- The first line feed stands at this place.
pub record IsFeedAt (text : List ℕ) (at : ℕ) : Type 0 where
  pub in_range : at < length text
  pub before : All IsInLine (take at text)
  pub here : slice_index text at ≡ 10

-- A line was taken, and the line feed behind it.
pub record IsLineTaken (old new line : List ℕ) : Type 0 where
  pub in_line : All IsInLine line
  pub text_is : old ≡ line ++ (10 ∷ new)

-- A log and the line `proved` were taken: this is the log's text, and it has so many lines.
pub record IsLogTaken (old new text : List ℕ) (count : ℕ) : Type 0 where
  pub log : List (List ℕ)
  pub text_is : text ≡ lines_text log
  pub count_is : count ≡ length log
  pub log_lines : All IsLogLine log
  pub cut : old ≡ lines_text log ++ (codes "proved\n" ++ new)

-- No line `proved` follows: so many lines there are that end with a line feed.
pub record IsUnfinished (old : List ℕ) (count : ℕ) : Type 0 where
  pub log : List (List ℕ)
  pub last : List ℕ
  pub count_is : count ≡ length log
  pub log_lines : All IsLogLine log
  pub unfinished : All IsInLine last
  pub cut : old ≡ lines_text log ++ last
  pub small : count < 2 ^ 63
