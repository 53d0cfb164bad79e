-- What moves at ports is what is offered there.
use Rattle.std.proofs.Common.{◌≡◌, ⊎_elim, ℕ, zero, suc, ◌<◌, Bool, true, false, cond, Option, Some, None, List, [], ◌∷◌, length, map, get_or, slice_get, refl, sym, subst, ap, ◌∙◌, arith}
use Rattle.std.specs.Prelude.{option_map}
use Rattle.std.specs.List.{position_or_len}
use Rattle.reo_values.specs.declared.value.Value.{Value}
use Rattle.reo_net_base.specs.declared.mark.Mark.TheVariants.{F}
use Rattle.reo_net_base.specs.declared.port.Offer.TheVariants.{Write, Take}
use Rattle.reo_net_base.specs.declared.joint.End.{End}
use Rattle.reo_net_base.specs.declared.joint.Joint.{Joint}
use Rattle.reo_net_base.specs.Marks.{is_flow}
use Rattle.reo_net_base.specs.Behaviour.{Behaviour}
use Rattle.reo_net_base.specs.Net.{Net, Wiring, behaviour_at, end_of, is_at, mark_at}
use Rattle.reo_net_base.specs.Rows.{mark_in}
use Rattle.reo_net_base.specs.Tables.{rows_of}
use Rattle.reo_net_base.specs.Colouring.{IsColouring, ItemFits, HasItem, given_at}
use Rattle.reo_net_base.specs.Wired.{IsWired}
use Rattle.reo_net_base.specs.Moves.{item_at, moves_at}
use Rattle.reo_net_base.proofs.Ends.{at_joint}
use Rattle.reo_net_base.proofs.Items.{some_in}
use Rattle.reo_net_base.proofs.Marks.{mark_flows}
use Rattle.reo_kinds.specs.declared.kind.WriterPort.{WriterPort}
use Rattle.reo_kinds.specs.declared.kind.TakerPort.{TakerPort}
use Rattle.reo_kinds.specs.declared.kind.Kind.{Kind}
use Rattle.reo_kinds.specs.declared.kind.Kind.TheVariants.{Writer, Taker}
use Rattle.reo_kinds.specs.Kinds.{behaviour_of, ready_table}
use Rattle.reo_kinds_laws.specs.move_laws.Offered.{net_in, IsOfOffer, MovesAreOffers}
use Rattle.reo_kinds_laws.proofs.move_laws.Lists.{from_place, of_place}
use Rattle.reo_kinds_laws.proofs.move_laws.Joints.{passes}

behaviour_is : (kinds : List Kind) (port : ℕ) (kind : Kind) → slice_get kinds port ≡ Some kind → behaviour_at (map behaviour_of kinds) port ≡ behaviour_of kind
behaviour_is [] port kind is = absurd cc
behaviour_is (k ∷ ks) zero kind is = let same : k ≡ kind = cc in ap behaviour_of same
behaviour_is (k ∷ ks) (suc port) kind is = behaviour_is ks port kind is

-- A side flows only where it can.
pending_is : (can : Bool) (row : ℕ) → mark_in (rows_of (ready_table can)) row 0 ≡ F → can ≡ true
pending_is true row flows = refl
pending_is false zero flows = absurd cc
pending_is false (suc row) flows = absurd cc

-- A writer gives what is offered, and a taker flows only while a take is pending.
gives_offer : (p : WriterPort) (b : Behaviour) → b ≡ behaviour_of (Writer p) → (side row end : ℕ) (taken : Option Value) → b.given side row end taken ≡ p.offer
gives_offer p b is side row end taken = ap (λ (x : Behaviour). x.given side row end taken) is

flows_pending : (p : TakerPort) (b : Behaviour) → b ≡ behaviour_of (Taker p) → (side row : ℕ) → b.mark side row 0 ≡ F → p.pending ≡ true
flows_pending p b is side row flows = pending_is p.pending row (sym (ap (λ (x : Behaviour). x.mark side row 0) is) ∙ flows)

module _ (net : Net) (rows : List ℕ) (items : List (Option Value)) (port : ℕ) where
  offer_given : (p : WriterPort) → behaviour_at net.primitives port ≡ behaviour_of (Writer p) → given_at net rows items (end_of port 0) ≡ p.offer
  unfolding given_at
  offer_given p is = gives_offer p (behaviour_at net.primitives port) is _ _ _ _

  taker_flows : (p : TakerPort) → behaviour_at net.primitives port ≡ behaviour_of (Taker p) → mark_at net rows (end_of port 0) ≡ F → p.pending ≡ true
  unfolding mark_at
  taker_flows p is flows = flows_pending p (behaviour_at net.primitives port) is _ _ flows

  -- The item at the joint of a writer is the one that is offered.
  offered : IsWired net → IsColouring net rows items → (p : WriterPort) → behaviour_at net.primitives port ≡ behaviour_of (Writer p)
      → (item : Value) → item_at net.joints items (end_of port 0) ≡ Some item → p.offer ≡ Some item
  offered wired colouring p is item found =
      let e : End = end_of port 0 in
      let none : Joint = record { giver = e; taker = e } in
      let place : ℕ = position_or_len (is_at e) net.joints in
      let inside = some_in items place item found in
      let each = colouring.one_each in
      let below : place < length net.joints = omega (arith, inside, each) in
      let j : Joint = get_or net.joints place none in
      let has : HasItem net rows items j item = subst (ItemFits net rows items j) found (colouring.items_fit place none below) in
      ⊎_elim
      (λ giver. sym (offer_given p is) ∙ ap (given_at net rows items) (sym giver) ∙ has.given)
      (λ taker.
      let takes : (behaviour_at net.primitives port).takes_in 0 ≡ true = subst (λ (x : End). (behaviour_at net.primitives x.primitive).takes_in x.end ≡ true) taker (wired.takes place none below) in
      let gives : (behaviour_at net.primitives port).takes_in 0 ≡ false = ap (λ (b : Behaviour). b.takes_in 0) is in
      absurd (let both = sym gives ∙ takes in cc))
      (at_joint e j (passes (is_at e) net.joints none below))

module _ (w : Wiring Kind) (rows : List ℕ) (items : List (Option Value)) (wired : IsWired (net_in w)) (colouring : IsColouring (net_in w) rows items) (port : ℕ) (item : Value)
    (flows : mark_at (net_in w) rows (end_of port 0) ≡ F) (found : item_at w.joints items (end_of port 0) ≡ Some item) where
  of_kind : (kind : Kind) → slice_get w.primitives port ≡ Some kind → IsOfOffer kind item
  of_kind (Writer p) is = record {
    goes_in = λ way. ap (option_map Write) (offered (net_in w) rows items port wired colouring p (behaviour_is w.primitives port (Writer p) is) item found);
    goes_out = λ way. absurd cc;
  }
  of_kind (Taker p) is = record {
    goes_in = λ way. absurd cc;
    goes_out = λ way. ap (λ (t : Bool). cond t (Some Take) None) (taker_flows (net_in w) rows items port p (behaviour_is w.primitives port (Taker p) is) flows);
  }
  of_kind _ is = record { goes_in = λ way. absurd cc; goes_out = λ way. absurd cc }

pub are_offers : MovesAreOffers
are_offers w rows items wired colouring port item kind is moved =
    let net : Net = net_in w in
    let from = from_place (moves_at net rows items) 0 w.ports _ moved in
    let of = of_place (is_flow (mark_at net rows (end_of from.place 0))) (item_at w.joints items (end_of from.place 0)) from.place port item from.has in
    let flows : mark_at net rows (end_of port 0) ≡ F = subst (λ (p : ℕ). mark_at net rows (end_of p 0) ≡ F) (sym of.0) (mark_flows (mark_at net rows (end_of from.place 0)) of.1) in
    let found : item_at w.joints items (end_of port 0) ≡ Some item = subst (λ (p : ℕ). item_at w.joints items (end_of p 0) ≡ Some item) (sym of.0) of.2 in
    of_kind w rows items wired colouring port item flows found kind is
