-- A part of an open circuit that is searched for the lists that its ports have.
use Rattle.std.specs.Prelude.{ℕ, ◌<◌, Bool, List, Option}
use Rattle.reo_values.specs.declared.value.Value.{Value}
use Rattle.reo_net_base.specs.declared.mark.Mark.{Mark}
use Rattle.reo_net_base.specs.Net.{Net, Wiring, net_of}
use Rattle.reo_net_base.specs.Wired.{IsWired, IsOrder}
use Rattle.reo_net_laws.specs.Jams.{IsThreeColouring}
use Rattle.reo_net_laws.specs.Knots.{Knotted, AreKnots, in_knot, knot_count}
use Rattle.reo_weights.specs.Over.{IsWithin}
use Rattle.reo_open.specs.declared.opens.Open.{Open}
use Rattle.reo_open.specs.Opens.{open_behaviour}
use Rattle.reo_listing.specs.laws.Gated.{AreHeld}

-- The part is within the budget, and its first ports say what the front says.
pub record IsSearched (w : Wiring Open) (knots : Knotted) (part budget : ℕ) (ports : List ℕ) (front : List Mark) : Type 0 where
  pub wired : IsWired (net_of open_behaviour w)
  pub order : List ℕ
  pub is_order : IsOrder (net_of open_behaviour w) order
  pub are_knots : AreKnots (net_of open_behaviour w) knots
  pub in_range : part < knot_count knots
  pub held : AreHeld w (in_knot knots.numbers part) ports front
  pub within : IsWithin budget (net_of open_behaviour w) (in_knot knots.numbers part)

-- Some assignment of a set does without a jam row.
abbrev pub HasThreeColouring : Net → (ℕ → Bool) → Type 0
HasThreeColouring net inside = (rows : List ℕ) × (items : List (Option Value)) × IsThreeColouring net inside rows items
