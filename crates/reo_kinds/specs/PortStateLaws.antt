-- The kinds keep the laws of a port.
use Rattle.std.proofs.Common.{ℕ, ◌≡◌, Bool, true, false, cond, Option, Some, None, refl, sym, ap, subst, option_map}
use Rattle.std.proofs.Math.Bool.{Bool-set}
use Rattle.reo_values.specs.declared.value.Value.{Value}
use Rattle.reo_net_base.specs.declared.colouring.Chosen.{Chosen}
use Rattle.reo_net_base.specs.declared.port.Offer.{Offer}
use Rattle.reo_net_base.specs.declared.port.Offer.TheVariants.{Write, Take}
use Rattle.reo_net_base.specs.Marks.{is_flow}
use Rattle.reo_net_base.specs.Lawful.{SameShape, TreatsAlike}
use Rattle.reo_net_base.specs.PortState.{no_port_state, CanPlace, IsPortWith}
use Rattle.reo_kinds.specs.declared.kind.WriterPort.{WriterPort}
use Rattle.reo_kinds.specs.declared.kind.TakerPort.{TakerPort}
use Rattle.reo_kinds.specs.declared.kind.Kind.{Kind}
use Rattle.reo_kinds.specs.declared.kind.Kind.TheVariants.{Writer, Taker}
use Rattle.reo_values.specs.Kind.{is_item}
use Rattle.reo_values.specs.declared.kindred.Kindred.{Kindred}
use Rattle.reo_kinds.specs.Items.{offer_fits}
use Rattle.reo_kinds.specs.Kinds.{behaviour_of, settled_kind, port_state_of, placed_kind, withdrawn_kind, offering_if, unoffered, with_take}
use Rattle.reo_kinds.specs.KindLaws.{same_shape, same_treatment}

-- What is no port has no pending offer.
pub no_port_kind : (kind : Kind) → (port_state_of kind).way ≡ None → (port_state_of kind).pending ≡ None
no_port_kind (Writer port) way = cc
no_port_kind (Taker port) way = cc
no_port_kind _ way = refl

-- What is no port stays so.
no_port_stays : (pending : Option Offer) → pending ≡ None → IsPortWith no_port_state no_port_state pending
no_port_stays pending is = record { way = refl; accepts = λ _. refl; pending_is = rw (is) refl }

offered_port : (port : WriterPort) (item : Value) (fits : Bool) (is : is_item item port.kindred ≡ fits) → fits ≡ true
    → IsPortWith (port_state_of (Writer port)) (port_state_of (Writer (offering_if port item fits is))) (Some (Write item))
offered_port port item true is fits = record { way = refl; accepts = λ _. refl; pending_is = refl }
offered_port port item false is fits = absurd cc

-- An offer that is placed is pending, and the rest stays.
pub placed_kind_port : (kind : Kind) (offer : Offer) → CanPlace (port_state_of kind) offer → IsPortWith (port_state_of kind) (port_state_of (placed_kind kind offer)) (Some offer)
placed_kind_port (Writer port) (Write item) can = offered_port port item _ refl can.accepted
placed_kind_port (Writer port) Take can = let way = can.way in cc
placed_kind_port (Taker port) (Write item) can = let way = can.way in cc
placed_kind_port (Taker port) Take can = record { way = refl; accepts = λ _. refl; pending_is = refl }
placed_kind_port _ offer can = let way = can.way in cc

pub placed_kind_shape : (kind : Kind) (offer : Offer) → SameShape (behaviour_of kind) (behaviour_of (placed_kind kind offer))
placed_kind_shape (Writer port) (Write item) = record { ends = refl; sides = refl; side_of = λ _. refl; takes_in = λ _. refl; leads = λ _. refl }
placed_kind_shape (Writer port) Take = same_shape _
placed_kind_shape (Taker port) (Write item) = same_shape _
placed_kind_shape (Taker port) Take = record { ends = refl; sides = refl; side_of = λ _. refl; takes_in = λ _. refl; leads = λ _. refl }
placed_kind_shape _ offer = same_shape _

pub placed_kind_alike : (kind : Kind) (offer : Offer) → TreatsAlike (behaviour_of kind) (behaviour_of (placed_kind kind offer))
placed_kind_alike (Writer port) (Write item) = record { passes = λ side row end it. refl; from = λ side row end. refl; given = λ side row end from taken is. absurd cc }
placed_kind_alike (Writer port) Take = same_treatment _
placed_kind_alike (Taker port) (Write item) = same_treatment _
placed_kind_alike (Taker port) Take = record { passes = λ side row end it. refl; from = λ side row end. refl; given = λ side row end from taken is. absurd cc }
placed_kind_alike _ offer = same_treatment _

-- After a withdrawal nothing is pending, and the rest stays.
pub withdrawn_kind_port : (kind : Kind) → IsPortWith (port_state_of kind) (port_state_of (withdrawn_kind kind)) None
withdrawn_kind_port (Writer port) = record { way = refl; accepts = λ _. refl; pending_is = refl }
withdrawn_kind_port (Taker port) = record { way = refl; accepts = λ _. refl; pending_is = refl }
withdrawn_kind_port _ = no_port_stays None refl

pub withdrawn_kind_shape : (kind : Kind) → SameShape (behaviour_of kind) (behaviour_of (withdrawn_kind kind))
withdrawn_kind_shape (Writer port) = record { ends = refl; sides = refl; side_of = λ _. refl; takes_in = λ _. refl; leads = λ _. refl }
withdrawn_kind_shape (Taker port) = record { ends = refl; sides = refl; side_of = λ _. refl; takes_in = λ _. refl; leads = λ _. refl }
withdrawn_kind_shape _ = same_shape _

pub withdrawn_kind_alike : (kind : Kind) → TreatsAlike (behaviour_of kind) (behaviour_of (withdrawn_kind kind))
withdrawn_kind_alike (Writer port) = record { passes = λ side row end it. refl; from = λ side row end. refl; given = λ side row end from taken is. absurd cc }
withdrawn_kind_alike (Taker port) = record { passes = λ side row end it. refl; from = λ side row end. refl; given = λ side row end from taken is. absurd cc }
withdrawn_kind_alike _ = same_treatment _

abbrev writer_with : (kindred : Kindred) (offer : Option Value) → offer_fits offer kindred ≡ true → WriterPort
writer_with kindred offer fits = record { kindred = kindred; offer = offer; fitting = fits }

-- Two writers of one type with equal offers are one.
one_writer : (kindred : Kindred) (a b : Option Value) (f : offer_fits a kindred ≡ true) (g : offer_fits b kindred ≡ true) → a ≡ b
    → writer_with kindred a f ≡ writer_with kindred b g
one_writer kindred a b f g same =
    subst (λ (c : Option Value). (h : offer_fits c kindred ≡ true) → writer_with kindred a f ≡ writer_with kindred c h) same
    (λ h. ap (writer_with kindred a) (Bool-set (offer_fits a kindred) true f h)) g

-- The item of a writer's pending offer.
item_offered : (offer : Option Value) (item : Value) → option_map Write offer ≡ Some (Write item) → offer ≡ Some item
item_offered None item is = cc
item_offered (Some other) item is = cc

-- A writer has no take pending.
no_take_offered : (offer : Option Value) → option_map Write offer ≡ Some Take → ⊥
no_take_offered None is = cc
no_take_offered (Some other) is = cc

-- A writer's item that is taken back and placed again is as if it had stayed.
writer_again : (port : WriterPort) (item : Value) (fits : Bool) (is : is_item item port.kindred ≡ fits) → port.offer ≡ Some item
    → offering_if (unoffered port) item fits is ≡ port
writer_again port item true is same = one_writer port.kindred (Some item) port.offer is port.fitting (sym same)
writer_again port item false is same = let fitting = port.fitting in cc

-- A taker's take that is taken back and placed again is as if it had stayed.
taker_again : (pending : Bool) (offer : Offer) → cond pending (Some Take) None ≡ Some offer → placed_kind (Taker (with_take false)) offer ≡ Taker (with_take pending)
taker_again true (Write item) is = cc
taker_again true Take is = refl
taker_again false offer is = cc

-- An offer that is taken back and placed again is as if it had stayed.
pub placed_kind_again : (kind : Kind) (offer : Offer) → (port_state_of kind).pending ≡ Some offer → placed_kind (withdrawn_kind kind) offer ≡ kind
placed_kind_again (Writer port) (Write item) is = ap Writer (writer_again port item _ refl (item_offered port.offer item is))
placed_kind_again (Writer port) Take is = absurd (no_take_offered port.offer is)
placed_kind_again (Taker port) offer is = taker_again port.pending offer is
placed_kind_again _ offer is = let is = is in cc

-- Nothing is pending at what is no port, whether it flows or not.
none_either_way : (flows : Bool) → cond {A = Option Offer} flows None None ≡ None
none_either_way true = refl
none_either_way false = refl

-- A port that flows has its offer no more.
writer_after : (port : WriterPort) (flows : Bool)
    → IsPortWith (port_state_of (Writer port)) (port_state_of (Writer (cond flows (unoffered port) port))) (cond flows None (port_state_of (Writer port)).pending)
writer_after port true = record { way = refl; accepts = λ _. refl; pending_is = refl }
writer_after port false = record { way = refl; accepts = λ _. refl; pending_is = refl }

taker_after : (port : TakerPort) (flows : Bool)
    → IsPortWith (port_state_of (Taker port)) (port_state_of (Taker (cond flows (with_take false) port))) (cond flows None (port_state_of (Taker port)).pending)
taker_after port true = record { way = refl; accepts = λ _. refl; pending_is = refl }
taker_after port false = record { way = refl; accepts = λ _. refl; pending_is = refl }

-- After a round the offer is gone where the port flowed, and else as it was. The rest stays.
pub settled_kind_port : (kind : Kind) (rows : Chosen) (taken : Option Value)
    → IsPortWith (port_state_of kind) (port_state_of (settled_kind kind rows taken)) (cond (is_flow ((behaviour_of kind).mark 0 rows.first 0)) None (port_state_of kind).pending)
settled_kind_port (Writer port) rows taken = writer_after port _
settled_kind_port (Taker port) rows taken = taker_after port _
settled_kind_port _ rows taken = no_port_stays _ (none_either_way _)
