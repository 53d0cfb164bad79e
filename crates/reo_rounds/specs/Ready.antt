-- A circuit at the start of a round.
use Rattle.std.specs.Prelude.{ℕ, suc, cond, nat_lt, is_some, Option, Some, None, List, [], ◌∷◌}
use Rattle.reo_net_base.specs.declared.port.Offer.{Offer}
use Rattle.reo_net_base.specs.Net.{Net, Wiring, net_of}
use Rattle.reo_rounds.specs.Rules.{Rules}

-- A port with nothing pending.
abbrev pub cleared : {P : Type 0} → Rules P → P → P
cleared r p = cond (is_some (r.port_state p).pending) (r.withdrawn p) p

-- A port at which exactly this is pending.
abbrev pub with_pending : {P : Type 0} → Rules P → Option Offer → P → P
with_pending r None p = cleared r p
with_pending r (Some offer) p = r.placed (cleared r p) offer

-- The primitives from the k-th on: at those below a limit exactly these offers are pending.
abbrev pub ports_ready : {P : Type 0} → Rules P → (ℕ → Option Offer) → ℕ → ℕ → List P → List P
ports_ready r offers limit k [] = []
ports_ready r offers limit k (p ∷ ps) = cond (nat_lt k limit) (with_pending r (offers k) p) p ∷ ports_ready r offers limit (suc k) ps

-- The circuit with exactly these offers pending at its ports.
abbrev pub ready : {P : Type 0} → Rules P → (ℕ → Option Offer) → Wiring P → Wiring P
ready r offers w = record w { primitives = ports_ready r offers w.ports 0 w.primitives }

abbrev pub ready_net : {P : Type 0} → Rules P → (ℕ → Option Offer) → Wiring P → Net
ready_net r offers w = net_of r.behaviour (ready r offers w)
