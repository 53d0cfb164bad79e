-- The ports of a connector stay what they are, whatever is offered, taken back or flows.
use Rattle.std.proofs.Common.{◌≡◌, ◌∙◌, ℕ, Bool, true, false, List, Result, Ok, Err, length, map, ap, sym, subst, refl}
use Rattle.std.specs.Prelude.{OnOk, OnErr, Option}
use Rattle.reo_net_base.specs.declared.port.Offer.{Offer}
use Rattle.reo_net_base.specs.declared.port.Port.{Port}
use Rattle.reo_net_base.specs.Net.{Wiring}
use Rattle.reo_net_base.specs.PortState.{PortState}
use Rattle.reo_net_base.specs.Shapes.{SameWays}
use Rattle.reo_net_circuit.specs.Offers.{OnlyPort}
use Rattle.reo_kinds.specs.declared.kind.Kind.{Kind}
use Rattle.reo_kinds.specs.Kinds.{port_state_of}
use Rattle.reo_runs.specs.run_premises.PortsOf.{HasPorts}
use Rattle.reo_runs.proofs.at_ports.AtPorts.{ports_stay}

-- A circuit has these ports.
abbrev pub HasThem : List Port → Wiring Kind → Type 0
HasThem ports w = (w.ports ≡ length ports) × HasPorts (map port_state_of w.primitives) ports

-- The ways of ports stay, and so do the ports.
same_ways : (ports : List Port) (old new : List PortState) → SameWays old new → HasPorts old ports → HasPorts new ports
same_ways ports old new same has = record {
  each = λ i port is.
      let was = has.each i port is in
      record { way = same.way i ∙ was.way; accepts = λ inward item. same.accepts i item ∙ was.accepts inward item };
  others = λ i past. same.way i ∙ has.others i past;
}

-- A round was made of the same circuit.
pub after_round : (ports : List Port) (old mid new : Wiring Kind) (changed : List Kind) → mid ≡ old → new ≡ record mid { primitives = changed }
    → SameWays (map port_state_of mid.primitives) (map port_state_of new.primitives) → HasThem ports old → HasThem ports new
after_round ports old mid new changed same is ways has =
    let here = subst (HasThem ports) (sym same) has in
    (ap (λ (w : Wiring Kind). w.ports) is ∙ here.0, same_ways ports _ _ ways here.1)

module _ {S : Type 0} (circuit_of : S → Wiring Kind) (old new : S) (ports : List Port) (port : ℕ) (pending : Option Offer) (changed : List Kind)
    (has : HasThem ports (circuit_of old)) where
  -- One port has another offer now.
  changed_at : circuit_of new ≡ record (circuit_of old) { primitives = changed }
      → OnlyPort (map port_state_of (circuit_of old).primitives) (map port_state_of (circuit_of new).primitives) port pending → HasThem ports (circuit_of new)
  changed_at is only = (ap (λ (w : Wiring Kind). w.ports) is ∙ has.0, ports_stay ports _ _ port pending only has.1)

  -- An offer was taken, or handed back.
  pub after_offer : {T E : Type 0} (r : Result T E) → OnOk r (circuit_of new ≡ record (circuit_of old) { primitives = changed })
      → OnOk r (OnlyPort (map port_state_of (circuit_of old).primitives) (map port_state_of (circuit_of new).primitives) port pending)
      → OnErr r (new ≡ old) → HasThem ports (circuit_of new)
  after_offer (Ok x) is only same = changed_at is only
  after_offer (Err e) is only same = subst (λ (s : S). HasThem ports (circuit_of s)) (sym same) has

  -- An offer was taken back, or there was none.
  pub after_withdrawal : (done : Bool) → (done ≡ true → circuit_of new ≡ record (circuit_of old) { primitives = changed })
      → (done ≡ true → OnlyPort (map port_state_of (circuit_of old).primitives) (map port_state_of (circuit_of new).primitives) port pending)
      → (done ≡ false → new ≡ old) → HasThem ports (circuit_of new)
  after_withdrawal true is only same = changed_at (is refl) (only refl)
  after_withdrawal false is only same = subst (λ (s : S). HasThem ports (circuit_of s)) (sym (same refl)) has
