-- The texts of logs.
use Rattle.std.specs.Prelude.{ℕ, ◌<◌, ◌^◌, ◌≡◌, List, ◌++◌, codes}
use Rattle.std.specs.Fmt.{decimal}
use Rattle.std.specs.List.{All, flat_map}
use Rattle.reo_joint_values.specs.declared.value.JointValue.{JointValue}
use Rattle.reo_joint_values.specs.declared.value.JointValue.TheVariants.{Flow, RG, GR, GG, Jam}
use Rattle.reo_refute_base.specs.declared.line.LogLine.{LogLine}
use Rattle.reo_refute_base.specs.declared.line.LogLine.TheVariants.{At, Drop, Empty, Split}

-- A value, as a log has it.
abbrev pub value_words : JointValue → List ℕ
value_words (Flow n) = codes "f " ++ decimal n
value_words RG = codes "rg"
value_words GR = codes "gr"
value_words GG = codes "gg"
value_words Jam = codes "jam"

-- A line of a log, with its LF.
abbrev pub line_text : LogLine → List ℕ
line_text (At p) = codes "at " ++ decimal p ++ codes "\n"
line_text (Drop j v side) = codes "drop " ++ decimal j ++ codes " " ++ value_words v ++ codes " " ++ decimal side ++ codes "\n"
line_text (Empty j) = codes "empty " ++ decimal j ++ codes "\n"
line_text (Split j) = codes "split " ++ decimal j ++ codes "\n"

-- The text of a log.
abbrev pub log_text : List LogLine → List ℕ
log_text lines = flat_map line_text lines

-- The number of a value, if it has one, is below 2^32.
abbrev pub IsValueNumbered : JointValue → Type 0
IsValueNumbered (Flow n) = n < 2 ^ 32
IsValueNumbered RG = Unit {0}
IsValueNumbered GR = Unit {0}
IsValueNumbered GG = Unit {0}
IsValueNumbered Jam = Unit {0}

-- The numbers of a line are such as lists have: below 2^63.
abbrev pub IsNumbered : LogLine → Type 0
IsNumbered (At p) = p < 2 ^ 63
IsNumbered (Drop j v side) = (j < 2 ^ 63) × IsValueNumbered v × (side < 2 ^ 63)
IsNumbered (Empty j) = j < 2 ^ 63
IsNumbered (Split j) = j < 2 ^ 63

-- A text begins with these lines, and this rest follows.
pub record BeginsWith (log : List ℕ) (lines : List LogLine) (rest : List ℕ) : Type 0 where
  pub numbered : All IsNumbered lines
  pub text : log ≡ log_text lines ++ rest
