-- First rows of circuits that are alike, in other rounds.
use Rattle.std.specs.Prelude.{ℕ, ◌+◌, ◌<◌, ◌≡◌, Bool, true, List, length}
use Rattle.reo_net_base.specs.Net.{Net, behaviour_at, first_side}
use Rattle.reo_net_base.specs.Wired.{IsWired}
use Rattle.reo_net_laws.specs.Alike.{AreAlike}
use Rattle.reo_net_laws.specs.Parts.{IsClosed}
use Rattle.reo_net_laws.specs.state_laws.States.{AreFirstRows}

-- The rows at the sides of a set have the same classes in the rounds of two numbers.
abbrev pub HaveSameClasses : Net → (ℕ → Bool) → ℕ → ℕ → Type 0
HaveSameClasses net inside turn later = (i side row : ℕ) → i < length net.primitives
    → side < (behaviour_at net.primitives i).sides
    → inside (first_side net.primitives i + side) ≡ true
    → row < (behaviour_at net.primitives i).rows side
    → (behaviour_at net.primitives i).class side row later ≡ (behaviour_at net.primitives i).class side row turn

-- Rows that are first on a closed set are first there in each circuit that is alike on the set, in each round in which
-- the classes are the same.
abbrev pub AlikeSameRows : Type 0
AlikeSameRows = (turn later : ℕ) (net other : Net) → IsWired net → IsWired other
    → (inside : ℕ → Bool) → IsClosed net inside → AreAlike net other inside
    → HaveSameClasses net inside turn later
    → (rows : List ℕ) → AreFirstRows net inside turn rows → AreFirstRows other inside later rows
