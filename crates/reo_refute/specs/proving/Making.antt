-- Lines of a log that are made.
use Rattle.std.specs.Prelude.{ℕ, ◌<◌, ◌≤◌, ◌≡◌, List, [], ◌∷◌, ◌++◌, length}
use Rattle.std.specs.List.{All}
use Rattle.reo_net_base.specs.Net.{Net}
use Rattle.reo_joint_values.specs.Values.{Family}
use Rattle.reo_refute_base.specs.declared.line.LogLine.{LogLine}
use Rattle.reo_refute_base.specs.Items.{Lists, items_at}
use Rattle.reo_refute_base.specs.Live.{all_live}
use Rattle.reo_refute_base.specs.Logs.{IsBranch}
use Rattle.reo_refute_base.specs.Steps.{IsStep}
use Rattle.reo_refute_base.specs.Texts.{IsNumbered, log_text}
use Rattle.reo_refute_base.specs.laws.Singles.{IsPartOf}
use Rattle.reo_refute_base.specs.measure.Owed.{owed}
use Rattle.reo_refute.specs.check.Judging.{Passes}
use Rattle.reo_refute.specs.next.Next.{IsSettled}

-- No joint has more than 256 items.
abbrev pub AreFew : Lists → Type 0
AreFew lists = (j : ℕ) → length (items_at lists j) ≤ 256

-- Whatever is live, some line leads on.
abbrev pub NeverSettles : Net → Lists → (ℕ → ℕ → Type 0) → Type 0
NeverSettles net lists allowed = (live : Family) → IsPartOf live (all_live lists)
    → IsSettled net lists allowed live → ⊥

-- Lines stand behind a text.
pub record HasWritten (old new : List ℕ) (lines : List LogLine) : Type 0 where
  pub numbered : All IsNumbered lines
  pub text : new ≡ old ++ log_text lines

-- A line leads a reader from these open branches to those, for which less is owed.
pub record LeadsTo (net : Net) (lists : Lists) (allowed : ℕ → ℕ → Type 0)
    (before after : List Family) (line : LogLine) : Type 0 where
  pub step : IsStep net lists allowed before line after
  pub less : owed net lists after < owed net lists before

-- A line that leads on stands behind a text.
pub record IsLineMade (net : Net) (lists : Lists) (allowed : ℕ → ℕ → Type 0)
    (before after : List Family) (old new : List ℕ) : Type 0 where
  pub line : LogLine
  pub written : HasWritten old new (line ∷ [])
  pub leads : LeadsTo net lists allowed before after line

-- A branch in which all values are live first stands behind a text.
pub record IsBranchMade (net : Net) (lists : Lists) (allowed : ℕ → ℕ → Type 0) (old new : List ℕ)
    : Type 0 where
  pub branch : List LogLine
  pub written : HasWritten old new branch
  pub is : IsBranch net lists allowed (all_live lists) branch

-- Lines that go past places stand behind a text.
pub record ArePartsMade (net : Net) (turn : ℕ) (given : List ℕ) (lists : Lists) (from to : ℕ)
    (old new : List ℕ) : Type 0 where
  pub lines : List LogLine
  pub written : HasWritten old new lines
  pub passes : Passes net turn given lists from to lines
