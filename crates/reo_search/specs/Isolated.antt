-- What is known of the first assignments of a set of sides in two circuits.
use Rattle.std.specs.Prelude.{ℕ, ◌≡◌, Bool, List}
use Rattle.reo_net_base.specs.Net.{Net}
use Rattle.reo_net_base.specs.Wired.{IsWired, IsOrder}
use Rattle.reo_net_laws.specs.Parts.{IsClosed}
use Rattle.reo_net_laws.specs.Alike.{AreAlike}
use Rattle.reo_walk.specs.declared.part.Part.{Part}
use Rattle.reo_search.specs.First.{AreFirstRows}

-- Where two circuits are alike on a closed set of sides, their first assignments have the same sides and rows there.
abbrev pub FirstRowsAgree : Type 0
FirstRowsAgree = (net other : Net) → IsWired net → IsWired other → (order : List ℕ) → IsOrder other order
    → (inside : ℕ → Bool) → IsClosed net inside → AreAlike net other inside
    → (turn : ℕ) (part other_part : Part) → AreFirstRows net inside turn part → AreFirstRows other inside turn other_part
    → (part.sides ≡ other_part.sides) × (part.rows ≡ other_part.rows)
