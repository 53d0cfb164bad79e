-- Open circuits in which a gate has fewer rows.
use Rattle.std.specs.Prelude.{ℕ, zero, suc, ◌<◌, ◌≤◌, ◌≡◌, ◌≢◌, Bool, true, List, [], ◌∷◌, length, slice_index, slice_index_or}
use Rattle.reo_net_base.specs.declared.mark.Mark.{Mark}
use Rattle.reo_net_base.specs.declared.mark.Mark.TheVariants.{F, G, R, J}
use Rattle.reo_net_base.specs.Net.{Wiring, net_of, side_at, end_of}
use Rattle.reo_net_base.specs.Step.{change_at}
use Rattle.reo_open.specs.declared.gate.GateRows.{GateRows}
use Rattle.reo_open.specs.declared.gate.GateRows.TheVariants.{All, Flow, Given, Required}
use Rattle.reo_open.specs.declared.opens.Open.{Open}
use Rattle.reo_open.specs.declared.opens.Open.TheVariants.{Border}
use Rattle.reo_open.specs.Opens.{open_behaviour}
use Rattle.reo_listing.specs.base.Tables.{mark_of}

-- The rows of a gate that says this alone.
abbrev pub allowed_for : Mark → GateRows
allowed_for F = Flow
allowed_for G = Given
allowed_for R = Required
allowed_for J = All

abbrev pub gate_of : Bool → GateRows → Open
gate_of takes allowed = Border (record { takes = takes; allowed = allowed })

-- A gate with these rows stands at a place.
pub record IsGate (w : Wiring Open) (port : ℕ) (takes : Bool) (allowed : GateRows) : Type 0 where
  pub in_range : port < length w.primitives
  pub is : (d : Open) → slice_index_or w.primitives port d ≡ gate_of takes allowed

-- The circuit with another primitive at a place.
abbrev pub put_at : Wiring Open → ℕ → Open → Wiring Open
put_at w port gate = record w { primitives = change_at (λ _. gate) w.primitives port }

-- The rows that a gate has at a place of some ports: what the front says there, and behind the front all.
abbrev pub allowed_at : List Mark → ℕ → GateRows
allowed_at [] place = All
allowed_at (m ∷ front) zero = allowed_for m
allowed_at (m ∷ front) (suc place) = allowed_at front place

-- At some ports of a set, each once, gates stand, and the first of them say what the front says.
pub record AreHeld (w : Wiring Open) (inside : ℕ → Bool) (ports : List ℕ) (front : List Mark) : Type 0 where
  pub gates : (k : ℕ) → k < length ports → (takes : Bool) × IsGate w (slice_index ports k) takes (allowed_at front k)
  pub here : (k : ℕ) → k < length ports → inside (side_at (net_of open_behaviour w) (end_of (slice_index ports k) 0)) ≡ true
  pub apart : (k n : ℕ) → k < n → n < length ports → slice_index ports k ≢ slice_index ports n
  pub within : length front ≤ length ports
  pub plain : (k : ℕ) → k < length front → mark_of front k ≢ J
