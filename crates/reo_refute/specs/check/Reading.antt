-- Lines that are taken from a log.
use Rattle.std.specs.Prelude.{ℕ, ◌+◌, ◌<◌, ◌^◌, ◌≡◌, List, ◌++◌, length, Option, Some, None, Result, Ok, Err}
use Rattle.std.specs.List.{All}
use Rattle.reo_refute_base.specs.declared.line.LogLine.{LogLine}
use Rattle.reo_refute_base.specs.declared.line.LogLine.TheVariants.{At}
use Rattle.reo_refute_base.specs.Texts.{IsNumbered, line_text, log_text}
use Rattle.reo_refute.specs.declared.check.lines.Lines.{Lines}
use Rattle.reo_refute.specs.declared.check.stop.LogStop.{LogStop}
use Rattle.reo_refute.specs.declared.check.stop.LogStop.TheVariants.{Colouring, Wide, Line, NoMemory}

-- The lines that were taken, with the bytes that are left, are few enough to be counted.
abbrev pub IsShort : Lines → Type 0
IsShort lines = lines.count + length lines.left < 2 ^ 63

-- A line was taken.
pub record IsNext (old new : Lines) (line : LogLine) : Type 0 where
  pub numbered : IsNumbered line
  pub text : old.left ≡ line_text line ++ new.left
  pub count : new.count ≡ old.count + 1
  pub short : IsShort new
  pub less : length new.left < length old.left

-- What was taken, if a line stood there. It is counted in any case.
abbrev pub Takes : Lines → Lines → Option LogLine → Type 0
Takes old new None = (new.count ≡ old.count + 1)
    × ((line : LogLine) (more : List ℕ) → IsNumbered line → old.left ≡ line_text line ++ more → ⊥)
Takes old new (Some line) = IsNext old new line

-- Lines were taken.
pub record HasRead (old new : Lines) (lines : List LogLine) : Type 0 where
  pub numbered : All IsNumbered lines
  pub text : old.left ≡ log_text lines ++ new.left
  pub count : new.count ≡ old.count + length lines
  pub short : IsShort new

-- The line that is next begins the part of a place, and was taken, or it does not.
abbrev pub IsAtTaken : ℕ → Lines → Lines → Result (Unit {0}) LogStop → Type 0
IsAtTaken number old new (Ok done) = IsNext old new (At number)
IsAtTaken number old new (Err (Line line)) = (line ≡ old.count + 1)
    × ((more : List ℕ) → IsNumbered (At number) → old.left ≡ line_text (At number) ++ more → ⊥)
IsAtTaken number old new (Err (Colouring wrong)) = ⊥
IsAtTaken number old new (Err Wide) = ⊥
IsAtTaken number old new (Err NoMemory) = Unit {0}
