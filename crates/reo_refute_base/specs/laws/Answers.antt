-- Logs have one answer.
use Rattle.std.specs.Prelude.{ℕ, ◌≡◌, List, ◌++◌}
use Rattle.reo_net_base.specs.Net.{Net}
use Rattle.reo_refute_base.specs.declared.line.LogLine.{LogLine}
use Rattle.reo_refute_base.specs.Items.{Lists, AreItemLists}
use Rattle.reo_refute_base.specs.Texts.{IsNumbered, line_text}
use Rattle.reo_refute_base.specs.RightTexts.{IsRightText, IsWrongLine}

-- The item lists of a circuit are one.
abbrev pub ItemListsAreOne : Type 0
ItemListsAreOne = (net : Net) (a b : Lists) → AreItemLists net a → AreItemLists net b → a ≡ b

-- A line, and what follows it, are told from the text.
abbrev pub LinesAreTold : Type 0
LinesAreTold = (a b : LogLine) (rest more : List ℕ) → IsNumbered a → IsNumbered b
    → line_text a ++ rest ≡ line_text b ++ more → (a ≡ b) × (rest ≡ more)

-- The text of a right log has no wrong line.
abbrev pub RightOrWrong : Type 0
RightOrWrong = (net : Net) (turn : ℕ) (given log : List ℕ) (line : ℕ)
    → IsRightText net turn given log → IsWrongLine net turn given log line → ⊥

-- One line of a text is the first that is wrong.
abbrev pub OneWrongLine : Type 0
OneWrongLine = (net : Net) (turn : ℕ) (given log : List ℕ) (a b : ℕ)
    → IsWrongLine net turn given log a → IsWrongLine net turn given log b → a ≡ b
