-- Rounds that lose no flow, and jam only for cause.
use Rattle.std.specs.Prelude.{ℕ, ◌<◌, ◌≡◌, Bool, true, false, IsTrue, List, Option}
use Rattle.reo_values.specs.declared.value.Value.{Value}
use Rattle.reo_net_base.specs.Colouring.{IsColouring}
use Rattle.reo_net_base.specs.First.{IsFirst}
use Rattle.reo_net_base.specs.Net.{Net, net_of}
use Rattle.reo_net_base.specs.Sides.{side_count}
use Rattle.reo_net_base.specs.Wired.{IsWired}
use Rattle.reo_net_laws.specs.FirstLaws.{Flows}
use Rattle.reo_net_laws.specs.Jams.{jams, IsThreeColouring}
use Rattle.reo_net_laws.specs.Parts.{IsClosed}
use Rattle.reo_trace.specs.declared.line.RoundLine.{RoundLine}
use Rattle.reo_trace.specs.declared.line.Ending.{Ending}
use Rattle.reo_trace.specs.Entries.{is_idle}
use Rattle.reo_rounds.specs.Rules.{Rules}
use Rattle.reo_runs.specs.Round.{Choosing}
use Rattle.reo_runs.specs.Run.{Place, IsRun, firsts}

-- The first colouring. It is idle only where no colouring flows, and jams no side of a closed set, such as a part, that has
-- a three-colouring.
pub record IsJustified (net : Net) (turn : ℕ) (rows : List ℕ) (items : List (Option Value)) : Type 0 where
  pub first : IsFirst net turn rows items
  pub idle : IsTrue (is_idle net rows) → (others : List ℕ) (other_items : List (Option Value)) → IsColouring net others other_items → Flows net others → ⊥
  pub jammed : (inside : ℕ → Bool) → IsClosed net inside → (others : List ℕ) (other_items : List (Option Value)) → IsThreeColouring net inside others other_items
      → (k : ℕ) → k < side_count net → inside k ≡ true → jams net rows k ≡ false

-- The same choice, of which each round is such a one.
abbrev pub justified : Choosing → Choosing
justified C = record {
  suits = λ net turn rows items. C.suits net turn rows items × IsJustified net turn rows items;
  stops = C.stops;
}

-- In every circuit each round of a run is such a one.
abbrev pub RunsAreJustified : {P : Type 0} → Rules P → Type 0
RunsAreJustified r = (budget limit : ℕ) (start : Place _) → IsWired (net_of r.behaviour start.state.circuit)
    → (lines : List RoundLine) (ending : Ending) → IsRun (firsts budget limit) r start lines ending → IsRun (justified (firsts budget limit)) r start lines ending
