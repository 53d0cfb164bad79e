-- Offers that come and go.
use Rattle.std.specs.Prelude.{ℕ, ◌≡◌, List, Some, slice_get}
use Rattle.reo_kinds.specs.Kinds.{placed_kind, withdrawn_kind}
use Rattle.reo_net_base.specs.Step.{change_at}
use Rattle.reo_net_base.specs.declared.port.Offer.{Offer}
use Rattle.reo_net_base.specs.declared.port.Offer.TheVariants.{Take, Write}
use Rattle.reo_rounds.specs.Offering.{IsOfferFault, IsPendingAt, IsTakenAt}
use Rattle.reo_rounds.specs.declared.offer.OfferFault.{OfferFault}
use Rattle.reo_rounds.specs.declared.offer.OfferFault.TheVariants as faults
use Rattle.reo_values.specs.declared.value.Value.{Value}
use Rattle.reo_values.specs.Kind.{IsIn}
use Rattle.reo_net_base.specs.declared.port.Port.{Port}
use Rattle.reo_connector.specs.Held.{Held, states_of, with_primitives}
use Rattle.reo_connector.specs.Items.{HasText}
use Rattle.reo_handles.specs.declared.session.Session.{Session}
use Rattle.reo_handles.specs.declared.status.CallStatus.{CallStatus}
use Rattle.reo_handles.specs.declared.status.CallStatus.TheVariants as statuses

-- The session of another connector.
abbrev pub with_connector : Session → Held → Session
with_connector s c = record { connector = c; done = s.done }

-- The session with an offer pending at a port, or with none there.
abbrev pub with_offer : Session → ℕ → Offer → Session
with_offer s port offer = with_connector s (with_primitives s.connector (change_at (λ p. placed_kind p offer) s.connector.circuit.primitives port))

abbrev pub without_offer : Session → ℕ → Session
without_offer s port = with_connector s (with_primitives s.connector (change_at withdrawn_kind s.connector.circuit.primitives port))

-- An offer is declined for this, and nothing changes.
abbrev pub IsDeclined : ℕ → Offer → Session → Session → OfferFault → Type 0
IsDeclined port offer s t fault = IsOfferFault (states_of s.connector) s.connector.circuit.ports port offer fault × (t ≡ s)

-- A take, or a write of an item of the port's type, if there is such a port.
abbrev pub Fits : Held → ℕ → Offer → Type 0
Fits c port Take = Unit {0}
Fits c port (Write item) = (at : Port) → slice_get c.ports port ≡ Some at → IsIn item at.kindred

-- What offering does.
unfoldable pub Offers : ℕ → Offer → Session → Session → CallStatus → Type 0
Offers port offer s t statuses.Done = IsTakenAt (states_of s.connector) s.connector.circuit.ports port offer × (t ≡ with_offer s port offer)
Offers port offer s t statuses.NoPort = IsDeclined port offer s t faults.NoPort
Offers port offer s t statuses.WrongWay = IsDeclined port offer s t faults.WrongWay
Offers port offer s t statuses.Pending = IsDeclined port offer s t faults.Pending
Offers port offer s t _ = ⊥

-- What offering to write the item of a text does.
unfoldable pub Writes : ℕ → List ℕ → Session → Session → CallStatus → Type 0
Writes port text s t statuses.NoItem = ((item : Value) → HasText s.connector port text item → ⊥) × (t ≡ s)
Writes port text s t statuses.NoMemory = t ≡ s
Writes port text s t status = (item : Value) × HasText s.connector port text item × Offers port (Write item) s t status

-- What taking an offer back does.
abbrev pub Withdraws : ℕ → Session → Session → CallStatus → Type 0
Withdraws port s t statuses.Done = IsPendingAt (states_of s.connector) s.connector.circuit.ports port × (t ≡ without_offer s port)
Withdraws port s t statuses.NotPending = (IsPendingAt (states_of s.connector) s.connector.circuit.ports port → ⊥) × (t ≡ s)
Withdraws port s t _ = ⊥
