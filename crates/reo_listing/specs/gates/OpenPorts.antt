-- The ports of open circuits.
use Rattle.std.specs.Prelude.{ℕ, Bool, [], map}
use Rattle.reo_net_base.specs.Net.{Wiring}
use Rattle.reo_net_base.specs.Wired.{ArePorts}
use Rattle.reo_kinds.specs.declared.kind.Kind.{Kind}
use Rattle.reo_kinds.specs.Kinds.{behaviour_of}
use Rattle.reo_open.specs.Opened.{open_wiring, open_net}
use Rattle.reo_listing.specs.base.Tables.{ports_in}
use Rattle.reo_listing.specs.laws.Gated.{AreHeld}

-- At the ports of a set of sides of an open circuit, each once, stand gates with all rows.
abbrev pub OpenPortsAreGates : Type 0
OpenPortsAreGates = (w : Wiring Kind) → ArePorts (map behaviour_of w.primitives) w.ports
    → (inside : ℕ → Bool) → AreHeld (open_wiring w) inside (ports_in (open_net w) w.ports inside) []
