-- What makes an offer pending, or takes one back, keeps a circuit the same but for its offers.
use Rattle.std.proofs.Common.{◌≡◌, ◌≢◌, ◌∙◌, ℕ, ◌+◌, ◌<◌, List, map, sym, ap, arith}
use Rattle.std.specs.Prelude.{Some, None, slice_get}
use Rattle.std.proofs.lemmas.List.{get_or-map}
use Rattle.std.proofs.lemmas.Option.{slice_get_within, get_or_from_slice_get}
use Rattle.reo_net_base.specs.declared.port.Offer.{Offer}
use Rattle.reo_net_base.specs.Net.{Wiring}
use Rattle.reo_net_base.specs.PortState.{PortState, no_port_state}
use Rattle.reo_net_base.specs.Step.{change_at}
use Rattle.reo_net_circuit.specs.Offers.{OnlyPort}
use Rattle.reo_rounds.specs.Rules.{Rules}
use Rattle.reo_rounds.specs.Ready.{with_pending}
use Rattle.reo_runs.specs.at_ports.Pending.{pending_in, IsButForOffers}
use Rattle.reo_runs.proofs.at_ports.Ready.{changed_list, ready_self, taken_at}

module _ {P : Type 0} (r : Rules P) where
  -- what is pending at a primitive's place is its own
  own : (ps : List P) (i : ℕ) (p : P) → slice_get ps i ≡ Some p → pending_in r ps i ≡ (r.port_state p).pending
  own ps i p got =
      ap (λ (state : PortState). state.pending) (get_or-map r.port_state ps i p no_port_state (slice_get_within ps i p got))
      ∙ ap (λ q. (r.port_state q).pending) (get_or_from_slice_get ps i p p got)

  pub self_but : ((p : P) (o : Offer) → (r.port_state p).pending ≡ Some o → r.placed (r.withdrawn p) o ≡ p) → (w : Wiring P) → IsButForOffers r w w
  self_but again w = ready_self r again (pending_in r w.primitives) w (own w.primitives)

  -- A change at one port, by what it makes of the primitive there.
  changed_but : (h : P → P) (w old new : Wiring P) (q : ℕ) → q < old.ports → IsButForOffers r w old
      → new ≡ record old { primitives = change_at h old.primitives q }
      → ((p : P) → slice_get w.primitives q ≡ Some p → h (with_pending r (pending_in r old.primitives q) p) ≡ with_pending r (pending_in r new.primitives q) p)
      → ((i : ℕ) → i ≢ q → pending_in r new.primitives i ≡ pending_in r old.primitives i)
      → IsButForOffers r w new
  changed_but h w old new q lt but is here others =
      let ports : old.ports ≡ w.ports = ap (λ (v : Wiring P). v.ports) but in
      let zeroth : 0 + q ≡ q = omega arith in
      is
      ∙ ap (λ (v : Wiring P). record v { primitives = change_at h v.primitives q }) but
      ∙ ap (λ (ps : List P). record w { primitives = ps })
      (changed_list r h (pending_in r old.primitives) (pending_in r new.primitives) w.ports 0 q w.primitives (omega arith) (rw zeroth here) (rw zeroth others))

  -- an offer that is made
  pub placed_but : (w old new : Wiring P) (q : ℕ) (o : Offer) → q < old.ports → IsButForOffers r w old
      → new ≡ record old { primitives = change_at (λ p. r.placed p o) old.primitives q }
      → pending_in r old.primitives q ≡ None
      → OnlyPort (map r.port_state old.primitives) (map r.port_state new.primitives) q (Some o)
      → IsButForOffers r w new
  placed_but w old new q o lt but is free only =
      let now : pending_in r new.primitives q ≡ Some o = only.here.pending_is in
      changed_but (λ p. r.placed p o) w old new q lt but is
      (λ p got. ap (λ u. r.placed (with_pending r u p) o) free ∙ sym (ap (λ u. with_pending r u p) now))
      (λ i ne. ap (λ (state : PortState). state.pending) (only.others i ne))

  -- an offer that is taken back
  pub withdrawn_but : ((p : P) (o : Offer) → (r.port_state p).pending ≡ Some o → r.placed (r.withdrawn p) o ≡ p)
      → (w old new : Wiring P) (q : ℕ) (o : Offer) → q < old.ports → IsButForOffers r w old
      → new ≡ record old { primitives = change_at r.withdrawn old.primitives q }
      → pending_in r old.primitives q ≡ Some o → pending_in r w.primitives q ≡ Some o
      → OnlyPort (map r.port_state old.primitives) (map r.port_state new.primitives) q None
      → IsButForOffers r w new
  withdrawn_but again w old new q o lt but is some was only =
      let now : pending_in r new.primitives q ≡ None = only.here.pending_is in
      changed_but r.withdrawn w old new q lt but is
      (λ p got.
      ap (λ u. r.withdrawn (with_pending r u p)) some
      ∙ taken_at r again p o (sym (own w.primitives q p got) ∙ was)
      ∙ sym (ap (λ u. with_pending r u p) now))
      (λ i ne. ap (λ (state : PortState). state.pending) (only.others i ne))
