-- What stands for a round.
use Rattle.std.specs.Prelude.{ℕ, ◌≡◌, List, [], Option}
use Rattle.reo_values.specs.declared.value.Value.{Value}
use Rattle.reo_net_base.specs.First.{IsFirst}
use Rattle.reo_net_base.specs.Moves.{moves_of}
use Rattle.reo_net_base.specs.Net.{Net}
use Rattle.reo_trace.specs.declared.line.RoundLine.{RoundLine}
use Rattle.reo_trace.specs.Entries.{is_idle}
use Rattle.reo_flows.specs.stepping.Changes.{AreThoseThatFlowed}
use Rattle.reo_flows.specs.stepping.Flowing.{AreFlowing}
use Rattle.reo_round.specs.declared.made_round.MadeRound.{MadeRound}

-- The line of a round without its entries.
abbrev pub bare_line : Net → (ports turn : ℕ) → List ℕ → List (Option Value) → RoundLine
bare_line net ports turn rows items = record { round = turn; idle = is_idle net rows; moves = moves_of net ports rows items; entries = [] }

-- It is the first colouring of the round of a number, with the joints that flow by it, marks of the primitives of which some
-- end flows, and its line.
pub record IsMadeRound (net : Net) (ports turn : ℕ) (s : MadeRound) : Type 0 where
  pub first : IsFirst net turn s.colouring.rows s.colouring.items
  pub flowing : AreFlowing net s.colouring.rows s.flowing
  pub marks : AreThoseThatFlowed net s.colouring.rows s.marks
  pub line : s.line ≡ bare_line net ports turn s.colouring.rows s.colouring.items

-- With some items these rows are the first colouring of the round of a number.
pub record HaveFirstItems (net : Net) (turn : ℕ) (rows : List ℕ) : Type 0 where
  pub items : List (Option Value)
  pub first : IsFirst net turn rows items
