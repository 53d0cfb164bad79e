-- Port by port: what is pending there after the offers are placed, and what stays.
use Rattle.std.proofs.Common.{zero-add, ◌≡◌, ◌∙◌, ℕ, zero, suc, ◌+◌, ◌<◌, ◌≤◌, cond, true, false, List, [], ◌∷◌, refl, length, map, arith}
use Rattle.std.specs.Prelude.{Option, Some, None, is_some, nat_lt, slice_get, option_map}
use Rattle.std.proofs.lemmas.Bool.Decides.{nat_tests}
use Rattle.reo_net_base.specs.declared.port.Offer.{Offer}
use Rattle.reo_net_base.specs.declared.port.Offer.TheVariants.{Write, Take}
use Rattle.reo_net_base.specs.PortState.{PortState, port_state_at, way_of, CanPlace, IsPortWith, IsAccepted}
use Rattle.reo_players.specs.Offers.{offer_for}
use Rattle.reo_rounds.specs.Rules.{Rules}
use Rattle.reo_rounds.specs.Ready.{cleared, with_pending, ports_ready, ready}
use Rattle.reo_runs.specs.Round.{State}
use Rattle.reo_runs.specs.Started.{AreTaken}

-- A port takes an offer, once nothing is pending there.
abbrev Takes : PortState → Offer → Type 0
Takes state offer = (state.way ≡ Some (way_of offer)) × IsAccepted state offer

accepted_moved : (old new : PortState) (offer : Offer) → IsPortWith old new None → IsAccepted old offer → IsAccepted new offer
accepted_moved old new (Write item) same is = same.accepts item ∙ is
accepted_moved old new Take same is = tt

can_place : (old new : PortState) (offer : Offer) → IsPortWith old new None → Takes old offer → CanPlace new offer
can_place old new offer same takes = record { way = same.way ∙ takes.0; free = same.pending_is; accepted = accepted_moved old new offer same takes.1 }

port_then : (a b d : PortState) (pending then : Option Offer) → IsPortWith a b pending → IsPortWith b d then → IsPortWith a d then
port_then a b d pending then p q = record { way = q.way ∙ p.way; accepts = λ item. q.accepts item ∙ p.accepts item; pending_is = q.pending_is }

module _ {P : Type 0} (r : Rules P) (offers : ℕ → Option Offer) where
  -- What is no port is as it was.
  pub ready_others : (ps : List P) (limit k i : ℕ) → limit ≤ k + i → slice_get (ports_ready r offers limit k ps) i ≡ slice_get ps i
  ready_others [] limit k i le = refl
  ready_others (p ∷ ps) limit k zero le =
      let no : nat_lt k limit ≡ false = grind (arith, nat_tests) in
      rw no refl
  ready_others (p ∷ ps) limit k (suc i) le = ready_others ps limit (suc k) i (omega arith)

  -- A port is the one that it was, with exactly what is offered there pending.
  pub ready_at : (ps : List P) (limit k i : ℕ) → k + i < limit → slice_get (ports_ready r offers limit k ps) i ≡ option_map (with_pending r (offers (k + i))) (slice_get ps i)
  ready_at [] limit k i lt = refl
  ready_at (p ∷ ps) limit k zero lt =
      let here : k + zero ≡ k = omega arith in
      let yes : nat_lt k limit ≡ true = grind (arith, nat_tests) in
      rw (yes, here) refl
  ready_at (p ∷ ps) limit k (suc i) lt =
      let next : k + suc i ≡ suc k + i = omega arith in
      rw next (ready_at ps limit (suc k) i (omega arith))

module _ {P : Type 0} (r : Rules P) (withdrawn : (q : P) → IsPortWith (r.port_state q) (r.port_state (r.withdrawn q)) None)
    (placed : (q : P) (offer : Offer) → CanPlace (r.port_state q) offer → IsPortWith (r.port_state q) (r.port_state (r.placed q offer)) (Some offer)) where
  cleared_port : (p : P) → IsPortWith (r.port_state p) (r.port_state (cleared r p)) None
  cleared_port p =
      elim (r.port_state p).pending as (λ o. (r.port_state p).pending ≡ o → IsPortWith (r.port_state p) (r.port_state (cond (is_some o) (r.withdrawn p) p)) None) [
        | None ↦ λ none. record { way = refl; accepts = λ _. refl; pending_is = none }
        | Some offer ↦ λ _. withdrawn p
      ] refl

  pending_port : (p : P) (o : Option Offer) → ((u : Offer) → o ≡ Some u → Takes (r.port_state p) u) → IsPortWith (r.port_state p) (r.port_state (with_pending r o p)) o
  pending_port p None takes = cleared_port p
  pending_port p (Some u) takes =
      port_then (r.port_state p) (r.port_state (cleared r p)) (r.port_state (with_pending r (Some u) p)) None (Some u) (cleared_port p)
      (placed (cleared r p) u (can_place (r.port_state p) (r.port_state (cleared r p)) u (cleared_port p) (takes u refl)))

  -- Exactly what is offered is pending.
  ready_port : (offers : ℕ → Option Offer) (ps : List P) (limit k i : ℕ) → i < length ps → k + i < limit → ((u : Offer) → offers (k + i) ≡ Some u → Takes (port_state_at (map r.port_state ps) i) u)
      → IsPortWith (port_state_at (map r.port_state ps) i) (port_state_at (map r.port_state (ports_ready r offers limit k ps)) i) (offers (k + i))
  ready_port offers [] limit k i lt below takes = absurd (omega arith)
  ready_port offers (p ∷ ps) limit k zero lt below takes =
      let here : k + zero ≡ k = omega arith in
      let yes : nat_lt k limit ≡ true = grind (arith, nat_tests) in
      rw (yes, here) (pending_port p (offers k) (rw here at takes))
  ready_port offers (p ∷ ps) limit k (suc i) lt below takes =
      let next : k + suc i ≡ suc k + i = omega arith in
      rw next (ready_port offers ps limit (suc k) i (omega arith) (omega arith) (rw next at takes))

  -- In a state whose offers are taken, the port has the offer of the components pending, and is otherwise as it was.
  pub started : (a : State P) → a.circuit.ports ≤ length a.circuit.primitives → AreTaken r a → (port : ℕ) → port < a.circuit.ports
      → IsPortWith (port_state_at (map r.port_state a.circuit.primitives) port) (port_state_at (map r.port_state (ready r (offer_for a.players) a.circuit).primitives) port)
      (offer_for a.players port)
  started a few taken port lt =
      let takes : (u : Offer) → offer_for a.players (0 + port) ≡ Some u → Takes (port_state_at (map r.port_state a.circuit.primitives) port) u = λ u is. taken port u lt (rw (zero-add port) at is) in
      rw (zero-add port) at (ready_port (offer_for a.players) a.circuit.primitives a.circuit.ports 0 port (omega (arith, few, lt)) (omega (arith, lt)) takes)
