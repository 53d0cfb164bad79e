-- Laws of open circuits.
use Rattle.std.specs.Prelude.{ℕ, Bool}
use Rattle.reo_net_base.specs.Net.{Wiring, net_of}
use Rattle.reo_net_base.specs.Wired.{IsWired}
use Rattle.reo_kinds.specs.declared.kind.Kind.{Kind}
use Rattle.reo_kinds.specs.Kinds.{behaviour_of}
use Rattle.reo_open.specs.Opened.{open_net}
use Rattle.reo_weights.specs.Widths.{IsWide}

-- No set of sides of an open circuit is wide.
abbrev pub OpenPartsAreNarrow : Type 0
OpenPartsAreNarrow = (w : Wiring Kind) → IsWired (net_of behaviour_of w) → (inside : ℕ → Bool)
    → IsWide (open_net w) inside → ⊥
