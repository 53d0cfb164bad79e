-- An engine as contracts see it.
use Rattle.std.specs.Prelude.{ℕ, ◌+◌, Bool, List}
use Rattle.reo_net_base.specs.Behaviour.{Behaviour}
use Rattle.reo_net_base.specs.Net.{Net, Wiring, net_of}
use Rattle.reo_net_circuit.specs.found_ends.Ends.{AreEnds}
use Rattle.reo_net_laws.specs.Knots.{Knotted, AreKnots}
use Rattle.reo_settling.specs.Plannings.{Kept, IsKept}

-- A circuit, how many rounds were made, and which primitives may have changed since the last of
-- them began; the circuit's knots, the joints at its ends, and what is kept of its parts.
pub record Running (P : Type 0) : Type 0 where
  pub circuit : Wiring P
  pub rounds : ℕ
  pub changed : List Bool
  pub knots : Knotted
  pub ends : List (List ℕ)
  pub kept : Kept

-- The circuit as mathematics.
abbrev pub net_now : {P : Type 0} → (P → Behaviour) → Running P → Net
net_now behaviour e = net_of behaviour e.circuit

-- Knots and ends are those of a circuit, and what is kept of its parts is right in the round after
-- so many.
pub record IsLookedUp (net : Net) (rounds : ℕ) (knots : Knotted) (ends : List (List ℕ))
    (kept : Kept) : Type 0 where
  pub are_knots : AreKnots net knots
  pub are_ends : AreEnds net ends
  pub is_kept : IsKept net knots (rounds + 1) kept
