-- What is found while a log is checked.
use Rattle.std.specs.Prelude.{ℕ, ◌+◌, ◌≡◌, ◌≢◌, ◌↔◌, Bool, cond, List, [], ◌∷◌, ◌++◌, length, Result, Ok, Err, Option}
use Rattle.std.specs.List.{All}
use Rattle.reo_values.specs.declared.value.Value.{Value}
use Rattle.reo_net_base.specs.Net.{Net}
use Rattle.reo_net_base.specs.First.{IsFirst}
use Rattle.reo_joint_values.specs.Values.{Family}
use Rattle.reo_refute_base.specs.declared.line.LogLine.{LogLine}
use Rattle.reo_refute_base.specs.Items.{Lists}
use Rattle.reo_refute_base.specs.Live.{all_live}
use Rattle.reo_refute_base.specs.Logs.{IsBranch, AreParts}
use Rattle.reo_refute_base.specs.Fronts.{ArePartsFront}
use Rattle.reo_refute_base.specs.Steps.{IsStep, AreSteps}
use Rattle.reo_refute_base.specs.Texts.{IsNumbered, line_text, log_text}
use Rattle.reo_refute_live.specs.declared.branches.OpenBranch.{OpenBranch}
use Rattle.reo_refute_live.specs.OpenBranch.{open_in}
use Rattle.reo_refute_base.specs.declared.faults.fault.ProofFault.{ProofFault}
use Rattle.reo_refute_base.specs.declared.faults.fault.ProofFault.TheVariants.{Colouring as NoColouring, Wide as TooWide, Line as WrongLine, NoMemory as OutOfMemory}
use Rattle.reo_refute_base.specs.faults.Faults.{HasColouring, AreNoColouring, IsProof, IsProofFault}
use Rattle.reo_refute.specs.declared.check.lines.Lines.{Lines}
use Rattle.reo_refute.specs.declared.check.stop.LogStop.{LogStop}
use Rattle.reo_refute.specs.declared.check.stop.LogStop.TheVariants.{Colouring, Wide, Line, NoMemory}
use Rattle.reo_refute.specs.check.Reading.{IsNext, HasRead}

-- No line that stands next can be read where these branches are open.
abbrev pub NoneGoesOn : Net → Lists → (ℕ → ℕ → Type 0) → List Family → List ℕ → Type 0
NoneGoesOn net lists allowed now text = (next : LogLine) (more : List ℕ) → IsNumbered next
    → text ≡ line_text next ++ more → (after : List Family)
    → IsStep net lists allowed now next after → ⊥

-- A line that was read, and what is open behind it.
pub record IsStepRead (net : Net) (lists : Lists) (allowed : ℕ → ℕ → Type 0)
    (before after : List Family) (old new : Lines) : Type 0 where
  pub line : LogLine
  pub next : IsNext old new line
  pub step : IsStep net lists allowed before line after

-- One line of a branch was taken, or none that stands there goes on.
abbrev pub IsStepTaken : Net → Lists → (ℕ → ℕ → Type 0) → OpenBranch → OpenBranch → Lines → Lines
    → Result Bool LogStop → Type 0
IsStepTaken net lists allowed before after old new (Ok more) =
    IsStepRead net lists allowed (open_in before) (cond more (open_in after) []) old new
IsStepTaken net lists allowed before after old new (Err (Line line)) =
    (line ≡ old.count + 1) × NoneGoesOn net lists allowed (open_in before) old.left
IsStepTaken net lists allowed before after old new (Err (Colouring wrong)) = ⊥
IsStepTaken net lists allowed before after old new (Err Wide) = ⊥
IsStepTaken net lists allowed before after old new (Err NoMemory) = Unit {0}

-- The lines of a branch were read.
pub record IsBranchRead (net : Net) (lists : Lists) (allowed : ℕ → ℕ → Type 0) (old new : Lines)
    : Type 0 where
  pub branch : List LogLine
  pub read : HasRead old new branch
  pub is : IsBranch net lists allowed (all_live lists) branch

-- Lines of a branch were read, branches are open, and no line that stands next goes on.
pub record IsBranchStuck (net : Net) (lists : Lists) (allowed : ℕ → ℕ → Type 0) (old : Lines)
    (line : ℕ) : Type 0 where
  pub front : List LogLine
  pub rest : List ℕ
  pub numbered : All IsNumbered front
  pub text : old.left ≡ log_text front ++ rest
  pub line_is : line ≡ old.count + length front + 1
  pub now : List Family
  pub steps : AreSteps net lists allowed (all_live lists ∷ []) front now
  pub open_is : now ≢ []
  pub stuck : NoneGoesOn net lists allowed now rest

-- The branch of a part was read, or its first line that is not right was found.
abbrev pub IsPartTaken : Net → Lists → (ℕ → ℕ → Type 0) → Lines → Lines
    → Result (Unit {0}) LogStop → Type 0
IsPartTaken net lists allowed old new (Ok done) = IsBranchRead net lists allowed old new
IsPartTaken net lists allowed old new (Err (Line line)) = IsBranchStuck net lists allowed old line
IsPartTaken net lists allowed old new (Err (Colouring wrong)) = ⊥
IsPartTaken net lists allowed old new (Err Wide) = ⊥
IsPartTaken net lists allowed old new (Err NoMemory) = Unit {0}

-- Behind these lines the parts from one place on go on as those from another.
pub record Passes (net : Net) (turn : ℕ) (given : List ℕ) (lists : Lists) (from to : ℕ)
    (lines : List LogLine) : Type 0 where
  pub parts : (rest : List LogLine)
      → AreParts net turn given lists from (lines ++ rest) ↔ AreParts net turn given lists to rest
  pub fronts : (rest : List LogLine)
      → ArePartsFront net turn given lists from (lines ++ rest)
      ↔ ArePartsFront net turn given lists to rest

-- Lines that go past a place were read.
pub record ArePassed (net : Net) (turn : ℕ) (given : List ℕ) (lists : Lists) (from to : ℕ)
    (old new : Lines) : Type 0 where
  pub lines : List LogLine
  pub read : HasRead old new lines
  pub passes : Passes net turn given lists from to lines

-- Lines were read that are right, and no line that stands next is.
pub record AreStuck (net : Net) (turn : ℕ) (given : List ℕ) (lists : Lists) (from : ℕ)
    (old : Lines) (line : ℕ) : Type 0 where
  pub right : List LogLine
  pub rest : List ℕ
  pub numbered : All IsNumbered right
  pub text : old.left ≡ log_text right ++ rest
  pub line_is : line ≡ old.count + length right + 1
  pub front : ArePartsFront net turn given lists from right
  pub wrong : (next : LogLine) (more : List ℕ) → IsNumbered next → rest ≡ line_text next ++ more
      → ArePartsFront net turn given lists from (right ++ (next ∷ [])) → ⊥
  pub unfinished : rest ≡ [] → AreParts net turn given lists from right → ⊥

-- The part of a place was read, or its first line that is not right was found.
abbrev pub IsPlaceTaken : Net → ℕ → List ℕ → Lists → ℕ → Lines → Lines
    → Result (Unit {0}) LogStop → Type 0
IsPlaceTaken net turn given lists number old new (Ok done) =
    ArePassed net turn given lists number (number + 1) old new
IsPlaceTaken net turn given lists number old new (Err (Line line)) =
    AreStuck net turn given lists number old line
IsPlaceTaken net turn given lists number old new (Err (Colouring wrong)) = ⊥
IsPlaceTaken net turn given lists number old new (Err Wide) = ⊥
IsPlaceTaken net turn given lists number old new (Err NoMemory) = Unit {0}

-- All parts were read, and nothing is left.
pub record AreAllRead (net : Net) (turn : ℕ) (given : List ℕ) (lists : Lists) (old : Lines)
    : Type 0 where
  pub lines : List LogLine
  pub numbered : All IsNumbered lines
  pub text : old.left ≡ log_text lines
  pub parts : AreParts net turn given lists 0 lines

-- All parts were read, or the first line that is not right was found.
abbrev pub ArePartsTaken : Net → ℕ → List ℕ → Lists → Lines → Result (Unit {0}) LogStop
    → Type 0
ArePartsTaken net turn given lists old (Ok done) = AreAllRead net turn given lists old
ArePartsTaken net turn given lists old (Err (Line line)) = AreStuck net turn given lists 0 old line
ArePartsTaken net turn given lists old (Err (Colouring wrong)) = ⊥
ArePartsTaken net turn given lists old (Err Wide) = ⊥
ArePartsTaken net turn given lists old (Err NoMemory) = Unit {0}

-- The rows are those of a colouring, or what is wrong first was found.
abbrev pub IsColoured : Net → List ℕ → Result (Unit {0}) LogStop → Type 0
IsColoured net rows (Ok done) = HasColouring net rows
IsColoured net rows (Err (Colouring wrong)) = AreNoColouring net rows wrong
IsColoured net rows (Err (Line line)) = ⊥
IsColoured net rows (Err Wide) = ⊥
IsColoured net rows (Err NoMemory) = Unit {0}

-- The fault for which checking stops.
abbrev pub fault_of : LogStop → ProofFault
fault_of (Colouring wrong) = NoColouring wrong
fault_of Wide = TooWide
fault_of (Line line) = WrongLine line
fault_of NoMemory = OutOfMemory

-- The log shows that the rows are first, or why not was found.
abbrev pub IsJudged : Net → ℕ → List ℕ → List ℕ → Result (Unit {0}) LogStop → Type 0
IsJudged net turn rows log (Ok done) = IsProof net turn rows log
IsJudged net turn rows log (Err stop) = IsProofFault net turn rows log (fault_of stop)

-- The rows are those of the first colouring.
abbrev pub IsFirstRows : Net → ℕ → List ℕ → Type 0
IsFirstRows net turn rows = (items : List (Option Value)) × IsFirst net turn rows items
