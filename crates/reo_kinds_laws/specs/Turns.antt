-- The turns of mergers.
use Rattle.std.specs.Prelude.{ℕ, ◌+◌, ◌<◌, ◌≤◌, ◌≡◌, ◌≢◌}
use Rattle.reo_net_base.specs.declared.mark.Mark.TheVariants.{F}
use Rattle.reo_net_base.specs.declared.branches.Branches.{Branches}
use Rattle.reo_net_base.specs.Behaviour.{Behaviour}
use Rattle.reo_kinds.specs.declared.kind.Kind.TheVariants.{Merger}
use Rattle.reo_kinds.specs.Kinds.{behaviour_of}
use Rattle.reo_kinds_laws.specs.Once.{IsOnce}

-- An end comes first in a round: of the rows of side 0 those by which it flows have smaller classes than all others.
abbrev pub FlowsFirst : Behaviour → ℕ → ℕ → Type 0
FlowsFirst b end turn = (row other : ℕ) → row < b.rows 0 → other < b.rows 0
    → b.mark 0 row end ≡ F → b.mark 0 other end ≢ F → b.class 0 row turn < b.class 0 other turn

-- The input of a merger comes first.
abbrev pub ComesFirst : Branches → ℕ → ℕ → Type 0
ComesFirst branches input turn = FlowsFirst (behaviour_of (Merger branches)) input turn

-- Of as many rounds running as a merger has inputs, the first of them any round, each input comes first in exactly one.
abbrev pub TurnsAreFair : Type 0
TurnsAreFair = (branches : Branches) (input start : ℕ) → input < branches.count → 1 ≤ start
    → IsOnce branches.count (λ later. ComesFirst branches input (start + later))
