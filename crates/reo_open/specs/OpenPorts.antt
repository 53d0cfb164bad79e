-- What stands in open circuits, as ports: at a gate one thing may be offered, that the surroundings require a reason.
use Rattle.std.proofs.Common.{ℕ, zero, suc, ◌≡◌, Bool, true, false, cond, Option, Some, None, refl}
use Rattle.reo_values.specs.declared.value.Value.{Value}
use Rattle.reo_net_base.specs.declared.colouring.Chosen.{Chosen}
use Rattle.reo_net_base.specs.declared.port.Offer.{Offer}
use Rattle.reo_net_base.specs.declared.port.Offer.TheVariants.{Write, Take}
use Rattle.reo_net_base.specs.declared.port.Way.TheVariants.{Out}
use Rattle.reo_net_base.specs.Marks.{is_flow}
use Rattle.reo_net_base.specs.Lasting.{KeepsTables}
use Rattle.reo_net_base.specs.Lawful.{SameShape, TreatsAlike}
use Rattle.reo_net_base.specs.PortState.{PortState, no_port_state, CanPlace, IsPortWith}
use Rattle.reo_net_base.specs.Rows.{mark_in}
use Rattle.reo_kinds.specs.KindLaws.{same_shape, same_treatment}
use Rattle.reo_kinds.specs.TellingLaws.{one_table}
use Rattle.reo_open.specs.declared.gate.GateRows.{GateRows}
use Rattle.reo_open.specs.declared.gate.GateRows.TheVariants.{All, Flow, Given, Required}
use Rattle.reo_open.specs.declared.gate.Gate.{Gate}
use Rattle.reo_open.specs.declared.opens.Open.{Open}
use Rattle.reo_open.specs.declared.opens.Open.TheVariants.{Border, Inner}
use Rattle.reo_open.specs.Gates.{gate_rows, with_allowed}
use Rattle.reo_open.specs.GateLaws.{gate_shape, gate_alike}
use Rattle.reo_open.specs.Opens.{open_behaviour, open_settled, open_lasting}

-- A gate that has that row alone has a take pending.
abbrev pub required_of : GateRows → Option Offer
required_of All = None
required_of Flow = None
required_of Given = None
required_of Required = Some Take

abbrev pub gate_state : Gate → PortState
gate_state g = record { way = Some Out; accepts = λ _. false; pending = required_of g.allowed }

abbrev pub open_port_state : Open → PortState
open_port_state (Border g) = gate_state g
open_port_state (Inner kind) = no_port_state

abbrev pub open_placed : Open → Offer → Open
open_placed (Border g) offer = Border (with_allowed Required g)
open_placed (Inner kind) offer = Inner kind

abbrev pub open_withdrawn : Open → Open
open_withdrawn (Border g) = Border (with_allowed All g)
open_withdrawn (Inner kind) = Inner kind

pub no_port_open : (p : Open) → (open_port_state p).way ≡ None → (open_port_state p).pending ≡ None
no_port_open (Border g) is = absurd cc
no_port_open (Inner kind) is = refl

no_way : (offer : Offer) → CanPlace no_port_state offer → ⊥
no_way offer can = let is = can.way in cc

gate_placed : (g : Gate) (offer : Offer) → CanPlace (gate_state g) offer → IsPortWith (gate_state g) (gate_state (with_allowed Required g)) (Some offer)
gate_placed g (Write item) can = absurd (let is = can.accepted in cc)
gate_placed g Take can = record { way = refl; accepts = λ _. refl; pending_is = refl }

pub placed_open_port : (p : Open) (offer : Offer) → CanPlace (open_port_state p) offer → IsPortWith (open_port_state p) (open_port_state (open_placed p offer)) (Some offer)
placed_open_port (Border g) offer can = gate_placed g offer can
placed_open_port (Inner kind) offer can = absurd (no_way offer can)

pub placed_open_shape : (p : Open) (offer : Offer) → SameShape (open_behaviour p) (open_behaviour (open_placed p offer))
placed_open_shape (Border g) offer = gate_shape g Required
placed_open_shape (Inner kind) offer = same_shape (open_behaviour (Inner kind))

pub placed_open_alike : (p : Open) (offer : Offer) → TreatsAlike (open_behaviour p) (open_behaviour (open_placed p offer))
placed_open_alike (Border g) offer = gate_alike g Required
placed_open_alike (Inner kind) offer = same_treatment (open_behaviour (Inner kind))

pub placed_open_lasting : (p : Open) (offer : Offer) → open_lasting (open_placed p offer) ≡ open_lasting p
placed_open_lasting (Border g) offer = refl
placed_open_lasting (Inner kind) offer = refl

pub placed_open_tables : (p : Open) (offer : Offer) → KeepsTables (open_lasting p) (open_behaviour p) (open_behaviour (open_placed p offer))
placed_open_tables (Border g) offer side turn lt stays = absurd cc
placed_open_tables (Inner kind) offer side turn lt stays = one_table side turn (open_behaviour (Inner kind))

pub withdrawn_open_port : (p : Open) → IsPortWith (open_port_state p) (open_port_state (open_withdrawn p)) None
withdrawn_open_port (Border g) = record { way = refl; accepts = λ _. refl; pending_is = refl }
withdrawn_open_port (Inner kind) = record { way = refl; accepts = λ _. refl; pending_is = refl }

pub withdrawn_open_shape : (p : Open) → SameShape (open_behaviour p) (open_behaviour (open_withdrawn p))
withdrawn_open_shape (Border g) = gate_shape g All
withdrawn_open_shape (Inner kind) = same_shape (open_behaviour (Inner kind))

pub withdrawn_open_alike : (p : Open) → TreatsAlike (open_behaviour p) (open_behaviour (open_withdrawn p))
withdrawn_open_alike (Border g) = gate_alike g All
withdrawn_open_alike (Inner kind) = same_treatment (open_behaviour (Inner kind))

pub withdrawn_open_lasting : (p : Open) → open_lasting (open_withdrawn p) ≡ open_lasting p
withdrawn_open_lasting (Border g) = refl
withdrawn_open_lasting (Inner kind) = refl

pub withdrawn_open_tables : (p : Open) → KeepsTables (open_lasting p) (open_behaviour p) (open_behaviour (open_withdrawn p))
withdrawn_open_tables (Border g) side turn lt stays = absurd cc
withdrawn_open_tables (Inner kind) side turn lt stays = one_table side turn (open_behaviour (Inner kind))

-- Where nothing is pending, nothing goes; where a reason is required, nothing flows.
none_goes : (flows : Bool) → ◌≡◌ {A = Option Offer} None (cond flows None None)
none_goes true = refl
none_goes false = refl

required_stays : (row : ℕ) → is_flow (mark_in (gate_rows Required) row 0) ≡ false
required_stays zero = refl
required_stays (suc row) = refl

stays : (flows : Bool) → flows ≡ false → ◌≡◌ {A = Option Offer} (Some Take) (cond flows None (Some Take))
stays true is = absurd cc
stays false is = refl

gate_stays : (allowed : GateRows) (row : ℕ) → required_of allowed ≡ cond (is_flow (mark_in (gate_rows allowed) row 0)) None (required_of allowed)
gate_stays All row = none_goes (is_flow (mark_in (gate_rows All) row 0))
gate_stays Flow row = none_goes (is_flow (mark_in (gate_rows Flow) row 0))
gate_stays Given row = none_goes (is_flow (mark_in (gate_rows Given) row 0))
gate_stays Required row = stays (is_flow (mark_in (gate_rows Required) row 0)) (required_stays row)

inner_stays : (flows : Bool) → IsPortWith no_port_state no_port_state (cond flows None None)
inner_stays true = record { way = refl; accepts = λ _. refl; pending_is = refl }
inner_stays false = record { way = refl; accepts = λ _. refl; pending_is = refl }

pub settled_open_port : (p : Open) (rows : Chosen) (taken : Option Value)
    → IsPortWith (open_port_state p) (open_port_state (open_settled p rows taken)) (cond (is_flow ((open_behaviour p).mark 0 rows.first 0)) None (open_port_state p).pending)
settled_open_port (Border g) rows taken = record { way = refl; accepts = λ _. refl; pending_is = gate_stays g.allowed rows.first }
settled_open_port (Inner kind) rows taken = inner_stays (is_flow ((open_behaviour (Inner kind)).mark 0 rows.first 0))
