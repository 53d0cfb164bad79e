-- The joints of a circuit stay in order through a round.
use Rattle.std.proofs.Common.{◌≡◌, ℕ, zero, suc, cond, true, false, List, [], ◌∷◌, ap, sym, refl, subst, length, map, arith}
use Rattle.std.specs.Prelude.{Option, Some, None, nat_lt, is_some}
use Rattle.std.proofs.lemmas.List.{length-map}
use Rattle.reo_values.specs.declared.value.Value.{Value}
use Rattle.reo_net_base.specs.declared.joint.Joint.{Joint}
use Rattle.reo_net_base.specs.declared.port.Offer.{Offer}
use Rattle.reo_net_base.specs.Lawful.{SameShape}
use Rattle.reo_net_base.specs.Net.{Wiring, net_of, behaviour_at}
use Rattle.reo_net_base.specs.Step.{stepped, all_chosen, all_taken}
use Rattle.reo_net_base.specs.Wired.{IsWired}
use Rattle.reo_net_base.specs.Shapes.{SameShapes}
use Rattle.reo_net_laws.proofs.Shapes.{shape_twice}
use Rattle.reo_net_circuit.proofs.ReshapeLemmas.{same_shape, reshaped, lawful_at, wired_same, order_same}
use Rattle.reo_trace.specs.declared.line.RoundLine.{RoundLine}
use Rattle.reo_rounds.specs.Rules.{Rules}
use Rattle.reo_rounds.specs.Ready.{cleared, with_pending, ports_ready, ready, ready_net}
use Rattle.reo_rounds.specs.EngineRound.{EngineRound}
use Rattle.reo_rounds.specs.Order.{HasOrder}
use Rattle.reo_rounds.specs.Lasting.{KeepsShape}
use Rattle.reo_rounds.specs.RoundOn.{Suiting, RoundOn}

module _ {P : Type 0} (r : Rules P) (offers : ℕ → Option Offer) where
  ready_length : (ps : List P) (limit n : ℕ) → length (ports_ready r offers limit n ps) ≡ length ps
  ready_length [] limit n = refl
  ready_length (p ∷ ps) limit n = ap suc (ready_length ps limit (suc n))

module _ {P : Type 0} (r : Rules P) (k : KeepsShape r) where
  cleared_shape : (p : P) → SameShape (r.behaviour p) (r.behaviour (cleared r p))
  cleared_shape p =
      elim (is_some (r.port_state p).pending) as (λ b. SameShape (r.behaviour p) (r.behaviour (cond b (r.withdrawn p) p)))
      [ true ↦ k.withdrawn p | false ↦ same_shape (r.behaviour p) ]

  pending_shape : (o : Option Offer) (p : P) → SameShape (r.behaviour p) (r.behaviour (with_pending r o p))
  pending_shape None p = cleared_shape p
  pending_shape (Some offer) p =
      shape_twice (r.behaviour p) (r.behaviour (cleared r p)) (r.behaviour (with_pending r (Some offer) p)) (cleared_shape p) (k.placed (cleared r p) offer)

  -- What holds of a circuit stays where its primitives keep their shapes.
  kept_wired : (ps qs : List P) (joints : List Joint) → SameShapes (map r.behaviour ps) (map r.behaviour qs) → IsWired (record { primitives = map r.behaviour ps; joints = joints })
      → IsWired (record { primitives = map r.behaviour qs; joints = joints })
  kept_wired ps qs joints same wired = wired_same (map r.behaviour ps) (map r.behaviour qs) same joints wired (lawful_at r.behaviour k.lawful qs)

  kept : (ps qs : List P) (joints : List Joint) → SameShapes (map r.behaviour ps) (map r.behaviour qs) → HasOrder (record { primitives = map r.behaviour ps; joints = joints }) → HasOrder (record { primitives = map r.behaviour qs; joints = joints })
  kept ps qs joints same old = record {
    wired = kept_wired ps qs joints same old.wired;
    order = old.order;
    is_order = order_same (map r.behaviour ps) (map r.behaviour qs) same joints old.wired old.order old.is_order;
  }

  stepped_same : (w : Wiring P) (rows : List ℕ) (items : List (Option Value)) → SameShapes (map r.behaviour w.primitives) (map r.behaviour (stepped r.behaviour r.settled w rows items))
  stepped_same w rows items = reshaped r.behaviour r.settled k.settled w.primitives (all_chosen (net_of r.behaviour w) rows) (all_taken (net_of r.behaviour w) items)

  module _ (suiting : Suiting) (turn : ℕ) (w : Wiring P) (line : RoundLine) (b : Wiring P) (round : RoundOn suiting r turn w line b) where
    -- After a round the circuit is put together well.
    pub on_wired : IsWired (net_of r.behaviour w) → IsWired (net_of r.behaviour b)
    on_wired wired =
        subst (λ (v : Wiring P). IsWired (net_of r.behaviour v)) (sym round.circuit)
        (kept_wired w.primitives (stepped r.behaviour r.settled w round.rows round.items) w.joints (stepped_same w round.rows round.items) wired)

    -- After a round the joints are in order.
    pub on_order : HasOrder (net_of r.behaviour w) → HasOrder (net_of r.behaviour b)
    on_order old =
        subst (λ (v : Wiring P). HasOrder (net_of r.behaviour v)) (sym round.circuit)
        (kept w.primitives (stepped r.behaviour r.settled w round.rows round.items) w.joints (stepped_same w round.rows round.items) old)

  module _ (offers : ℕ → Option Offer) where
    ready_shape : (ps : List P) (limit n i : ℕ) → SameShape (behaviour_at (map r.behaviour ps) i) (behaviour_at (map r.behaviour (ports_ready r offers limit n ps)) i)
    ready_shape [] limit n i = same_shape (behaviour_at [] i)
    ready_shape (p ∷ ps) limit n zero =
        elim (nat_lt n limit) as (λ b. SameShape (r.behaviour p) (r.behaviour (cond b (with_pending r (offers n) p) p)))
        [ true ↦ pending_shape (offers n) p | false ↦ same_shape (r.behaviour p) ]
    ready_shape (p ∷ ps) limit n (suc i) = ready_shape ps limit (suc n) i

    ready_same : (w : Wiring P) → SameShapes (map r.behaviour w.primitives) (map r.behaviour (ready r offers w).primitives)
    ready_same w =
        let ps : List P = w.primitives in
        let qs : List P = ports_ready r offers w.ports 0 ps in
        let count : length (map r.behaviour qs) ≡ length (map r.behaviour ps) = omega (arith, ready_length r offers ps w.ports 0, length-map ps r.behaviour, length-map qs r.behaviour) in
        record { count = count; same = λ i lt. ready_shape ps w.ports 0 i }

    pub ready_wired : (w : Wiring P) → IsWired (net_of r.behaviour w) → IsWired (ready_net r offers w)
    ready_wired w wired = kept_wired w.primitives (ready r offers w).primitives w.joints (ready_same w) wired

    pub ready_order : (w : Wiring P) → HasOrder (net_of r.behaviour w) → HasOrder (ready_net r offers w)
    ready_order w old = kept w.primitives (ready r offers w).primitives w.joints (ready_same w) old

    module _ (suiting : Suiting) (turn : ℕ) (a : Wiring P) (line : RoundLine) (b : Wiring P) (round : EngineRound suiting r offers turn a line b) where
      -- The same after a round with exactly these offers.
      pub round_wired : IsWired (net_of r.behaviour a) → IsWired (net_of r.behaviour b)
      round_wired wired = on_wired suiting turn (ready r offers a) line b round (ready_wired a wired)

      pub round_order : HasOrder (net_of r.behaviour a) → HasOrder (net_of r.behaviour b)
      round_order old = on_order suiting turn (ready r offers a) line b round (ready_order a old)
