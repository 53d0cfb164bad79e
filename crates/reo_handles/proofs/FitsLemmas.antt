-- No port declines an item of its type for being outside of it.
use Rattle.std.proofs.Common.{◌≡◌, ◌∙◌, ℕ, true, List, length, Some, sym, subst, arith}
use Rattle.std.specs.Prelude.{slice_get}
use Rattle.reo_values.specs.declared.value.Value.{Value}
use Rattle.reo_values.specs.Kind.{IsIn}
use Rattle.reo_values.proofs.Tests.{is_item-is}
use Rattle.reo_net_base.specs.declared.port.Offer.{Offer}
use Rattle.reo_net_base.specs.declared.port.Offer.TheVariants.{Take, Write}
use Rattle.reo_net_base.specs.declared.port.Port.{Port}
use Rattle.reo_net_base.specs.declared.port.Way.TheVariants.{In}
use Rattle.reo_net_base.specs.PortState.{port_state_at}
use Rattle.reo_rounds.specs.Offering.{IsOfferFault}
use Rattle.reo_rounds.specs.declared.offer.OfferFault.TheVariants as faults
use Rattle.reo_runs.specs.run_premises.PortsOf.{HasPorts}
use Rattle.reo_runs.proofs.at_ports.Begun.{got}
use Rattle.reo_connector.specs.Held.{Held, states_of}
use Rattle.reo_connector.specs.Items.{HasText}
use Rattle.reo_handles.specs.Offers.{Fits}

pub never_outside : (c : Held) (port : ℕ) (offer : Offer) → HasPorts (states_of c) c.ports → c.circuit.ports ≡ length c.ports → Fits c port offer
    → IsOfferFault (states_of c) c.circuit.ports port offer faults.ItemOutside → ⊥
never_outside c port Take has count fits fault = fault.1.2 tt
never_outside c port (Write item) has count fits fault =
    let (at, is) = got c.ports port (omega (arith, fault.0, count)) in
    let here = has.each port at is in
    let way : at.way ≡ In = (let both = sym here.way ∙ fault.1.0 in cc) in
    let accepted : (port_state_at (states_of c) port).accepts item ≡ true = here.accepts way item ∙ (is_item-is item at.kindred).1 (fits at is) in
    fault.1.2 accepted

-- What has a text at a port fits there.
pub text_fits : (c : Held) (port : ℕ) (text : List ℕ) (item : Value) → HasText c port text item → Fits c port (Write item)
text_fits c port text item has at is =
    let same : has.at ≡ at = (let both = sym has.is ∙ is in cc) in
    subst (λ (p : Port). IsIn item p.kindred) same has.item_is
