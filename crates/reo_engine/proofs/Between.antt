-- The parts that are not settled any more after a round, by the primitives that stand between parts and by what moves.
use Rattle.std.proofs.Common.{◌≡◌, ◌∙◌, inl, inr, ℕ, ◌+◌, ◌<◌, Bool, true, false, List, Option, length, get_or, ap, sym, arith}
use Rattle.std.proofs.lemmas.Bool.{false_from_ne_true, both_ways, cases_eq, cases_lt}
use Rattle.std.proofs.lemmas.List.{get_or_past}
use Rattle.reo_values.specs.declared.value.Value.{Value}
use Rattle.reo_net_base.specs.declared.joint.End.{End}
use Rattle.reo_net_base.specs.Behaviour.{Behaviour}
use Rattle.reo_net_base.specs.First.{IsFirst}
use Rattle.reo_net_base.specs.Net.{Net, behaviour_at, end_of, first_side, mark_at, side_at}
use Rattle.reo_net_base.specs.Sides.{side_count}
use Rattle.reo_net_base.specs.Wired.{IsWired, IsEnd, IsOrder}
use Rattle.reo_net_laws.proofs.FirstInside.{first_inside}
use Rattle.reo_net_laws.proofs.OneFirst.{one_inside}
use Rattle.reo_net_laws.proofs.Sides.{side_at_place, side_in_range}
use Rattle.reo_net_laws.specs.Knots.{Knotted, AreKnots, in_knot, knot_count}
use Rattle.reo_weights.specs.still.Still.{IsStill}
use Rattle.reo_settling.specs.Plannings.{Kept, IsKept, is_moving, is_settled, AreApart, AreBetweenUnsettled, AreFewer, AreMarkedUnsettled, AreMovingUnsettled, AreUnsettled, IsMarked, part_at}
use Rattle.reo_engine.proofs.Plannings.{mark_same, number_is, fewer_none, fewer_twice}
use Rattle.reo_flows.specs.stepping.Changes.{AreThoseThatFlowed, is_changed}
use Rattle.reo_engine.proofs.Resting.{in_own}

-- Parts that move are not settled any more: to unsettle them again changes nothing.
pub moving_again : (old now : Kept) → AreMovingUnsettled old now → AreMovingUnsettled now now
moving_again old now moving = record { fewer = fewer_none now; still = moving.still; stay = λ k not h. h }

module _ (net : Net) (wired : IsWired net) (order : List ℕ) (is_order : IsOrder net order) (knots : Knotted) (are : AreKnots net knots)
    (turn : ℕ) (rows : List ℕ) (items : List (Option Value)) (first : IsFirst net turn rows items) (kept : Kept) (is : IsKept net knots turn kept) where
  -- A part that is settled is one of the parts.
  settled_in : (k : ℕ) → is_settled kept k ≡ true → k < knot_count knots
  settled_in k settled = elim (cases_lt k (length kept.settled)) [
    | inl lt ↦ omega (arith, lt, is.sizes.one_each)
    | inr past ↦ absurd (both_ways (is_settled kept k) (get_or_past kept.settled k false past) settled)
  ]

  -- On a settled part the rows that are kept are those of the first colouring.
  rows_agree : (k : ℕ) → is_settled kept k ≡ true → (s : ℕ) → s < side_count net → in_knot knots.numbers k s ≡ true → get_or kept.rows s 0 ≡ get_or rows s 0
  rows_agree k settled s s_in h =
      let lt = settled_in k settled in
      let inside : ℕ → Bool = in_knot knots.numbers k in
      let closed = (are.are_knots k lt).closed in
      let known = (is.known k lt settled).first in
      let same = one_inside net wired order is_order inside closed turn known.others rows known.items items known.first (first_inside net wired turn rows items first inside closed) in
      known.same s s_in h ∙ same.rows s s_in h

  -- So the same ends flow there.
  marks_agree : (k : ℕ) → is_settled kept k ≡ true → (e : End) → IsEnd net.primitives e → in_knot knots.numbers k (side_at net e) ≡ true → mark_at net kept.rows e ≡ mark_at net rows e
  marks_agree k settled e e_in h = mark_same net wired (in_knot knots.numbers k) rows kept.rows (rows_agree k settled) e e_in h

  module _ (marks : List Bool) (flowed : AreThoseThatFlowed net rows marks) (some now : Kept)
      (between : AreBetweenUnsettled net knots marks (length marks) kept some) (moving : AreMovingUnsettled some now) where
    fewer : AreFewer kept now
    fewer = fewer_twice kept some now between.fewer moving.fewer

    -- In a part that is still settled nothing flows.
    calm : (k : ℕ) → is_settled now k ≡ true → IsStill net (in_knot knots.numbers k) rows
    calm k settled e e_in h flows =
        let before = fewer.fewer k settled in
        let not : is_moving kept k ≡ false = ap (λ (xs : List Bool). get_or xs k true) (sym fewer.moving) ∙ moving.still k settled in
        (is.known k (settled_in k before) before).still not e e_in h (marks_agree k before e e_in h ∙ flows)

    -- So it has no side of a primitive that is marked: of those with two sides both parts are unsettled, and others flow at their one side.
    gone : (i : ℕ) → i < length marks → IsMarked marks i → AreUnsettled net knots i (behaviour_at net.primitives i).sides now
    gone i lt marked side below =
        let count = flowed.one_each in
        let i_in : i < length net.primitives = omega (arith, lt, count) in
        let b : Behaviour = behaviour_at net.primitives i in
        let lawful = wired.lawful i i_in in
        let part : ℕ = part_at net knots i side in
        false_from_ne_true (is_settled now part) (λ settled. elim (cases_eq b.sides 2) [
          | inl two ↦ both_ways (is_settled some part) (between.gone i lt (marked, two) side below) (moving.fewer.fewer part settled)
          | inr one ↦
              let flow = (flowed.each i i_in).0 marked in
              let e : End = end_of i flow.end in
              let there = lawful.sides_in flow.end flow.is_end in
              let few = lawful.few_sides in
              let same : b.side_of flow.end ≡ side = omega (arith, below, there, few, one) in
              let place : side_at net e ≡ first_side net.primitives i + side = side_at_place net e ∙ ap (λ (n : ℕ). first_side net.primitives i + n) same in
              calm part settled e (i_in, flow.is_end)
              (in_own net knots are (side_at net e) part (side_in_range net wired e (i_in, flow.is_end)) (ap (λ (s : ℕ). get_or knots.numbers s 0) place)) flow.flows
        ])

    -- A part of which no primitive is marked does not move, and stays.
    stay : (k : ℕ) → AreApart net knots marks (length marks) k → is_settled kept k ≡ true → is_settled now k ≡ true
    stay k apart settled =
        let count = flowed.one_each in
        let not : is_moving kept k ≡ false = false_from_ne_true (is_moving kept k) (λ moves.
        let flow = (is.known k (settled_in k settled) settled).flows moves in
        let e : End = flow.end in
        let i_in : e.primitive < length net.primitives = flow.is_end.0 in
        let marked : is_changed marks e.primitive ≡ true = (flowed.each e.primitive i_in).1
        record { end = e.end; is_end = flow.is_end.1; flows = sym (marks_agree k settled e flow.is_end flow.here) ∙ flow.flows } in
        let side : ℕ = (behaviour_at net.primitives e.primitive).side_of e.end in
        let part : part_at net knots e.primitive side ≡ k = ap (λ (s : ℕ). get_or knots.numbers s 0) (sym (side_at_place net e)) ∙ number_is knots.numbers k (side_at net e) flow.here in
        apart e.primitive (omega (arith, i_in, count)) marked side ((wired.lawful e.primitive i_in).sides_in e.end flow.is_end.1) part) in
        moving.stay k (ap (λ (xs : List Bool). get_or xs k true) between.fewer.moving ∙ not) (between.stay k (λ i lt both. apart i lt both.0) settled)

    -- All is as if the parts of all that are marked had been unsettled.
    pub marked_unsettled : AreMarkedUnsettled net knots marks (length marks) kept now
    marked_unsettled = record { fewer = fewer; gone = gone; stay = stay }
