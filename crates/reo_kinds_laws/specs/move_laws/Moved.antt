-- Which moves a round has.
use Rattle.std.specs.Prelude.{ℕ, ◌<◌, ◌≡◌, ◌↔◌, ◌⊎◌, Option, List, [], ◌∷◌}
use Rattle.reo_values.specs.declared.value.Value.{Value}
use Rattle.reo_net_base.specs.declared.mark.Mark.TheVariants.{F}
use Rattle.reo_net_base.specs.declared.colouring.Move.{Move}
use Rattle.reo_net_base.specs.Net.{Net, end_of, mark_at}
use Rattle.reo_net_base.specs.Colouring.{IsColouring}
use Rattle.reo_net_base.specs.Wired.{IsWired, ArePorts}
use Rattle.reo_net_base.specs.Moves.{moves_of}

-- The move stands in the list.
abbrev pub Has : List Move → Move → Type 0
Has [] move = ⊥
Has (m ∷ ms) move = (m ≡ move) ⊎ Has ms move

-- An item moves at a port.
abbrev pub Moves : List Move → ℕ → Value → Type 0
Moves moves port item = Has moves (record { port = port; item = item })

-- At each port an item moves exactly where its end flows, and elsewhere none moves.
pub record AreFlows (net : Net) (ports : ℕ) (rows : List ℕ) (items : List (Option Value)) : Type 0 where
  pub at_ports : (port : ℕ) → port < ports → ((item : Value) × Moves (moves_of net ports rows items) port item) ↔ (mark_at net rows (end_of port 0) ≡ F)
  pub at_ports_alone : (port : ℕ) (item : Value) → Moves (moves_of net ports rows items) port item → port < ports

abbrev pub MovesAreFlows : Type 0
MovesAreFlows = (net : Net) (ports : ℕ) (rows : List ℕ) (items : List (Option Value)) → IsWired net → ArePorts net.primitives ports
    → IsColouring net rows items → AreFlows net ports rows items
