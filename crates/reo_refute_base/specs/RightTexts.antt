-- Which texts are those of right logs, and which line of another is wrong first.
use Rattle.std.specs.Prelude.{ℕ, ◌+◌, ◌≡◌, List, [], ◌∷◌, ◌++◌, length}
use Rattle.reo_net_base.specs.Net.{Net}
use Rattle.reo_refute_base.specs.declared.line.LogLine.{LogLine}
use Rattle.reo_refute_base.specs.Items.{Lists, AreItemLists}
use Rattle.reo_refute_base.specs.Logs.{AreParts, IsRightLog}
use Rattle.reo_refute_base.specs.Fronts.{ArePartsFront}
use Rattle.reo_refute_base.specs.Texts.{IsNumbered, BeginsWith, line_text}

-- The text of a right log.
pub record IsRightText (net : Net) (turn : ℕ) (given log : List ℕ) : Type 0 where
  pub lines : List LogLine
  pub text : BeginsWith log lines []
  pub right : IsRightLog net turn given lines

-- The first line that is not right where it stands, or the line after the last where the log ends
-- early: the lines before it are right, no line that stands next is right there, and if the text
-- ends there, parts are missing.
pub record IsWrongLine (net : Net) (turn : ℕ) (given log : List ℕ) (line : ℕ) : Type 0 where
  pub lists : Lists
  pub item_lists : AreItemLists net lists
  pub right : List LogLine
  pub rest : List ℕ
  pub text : BeginsWith log right rest
  pub line_is : line ≡ length right + 1
  pub front : ArePartsFront net turn given lists 0 right
  pub wrong : (next : LogLine) (more : List ℕ) → IsNumbered next → rest ≡ line_text next ++ more
      → ArePartsFront net turn given lists 0 (right ++ (next ∷ [])) → ⊥
  pub unfinished : rest ≡ [] → AreParts net turn given lists 0 right → ⊥
