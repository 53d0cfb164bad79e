-- The items that can stand at joints of a set, in circuits that are alike on the set.
use Rattle.std.proofs.Common.{◌≡◌, ℕ, ◌+◌, ◌<◌, List, Bool, Option, None, Some, true, ap, sym, ◌∙◌, subst, arith}
use Rattle.reo_values.specs.declared.value.Value.{Value}
use Rattle.reo_net_base.specs.declared.joint.End.{End}
use Rattle.reo_net_base.specs.declared.joint.Joint.{Joint}
use Rattle.reo_net_base.specs.Behaviour.{Behaviour}
use Rattle.reo_net_base.specs.Net.{Net, behaviour_at, side_at}
use Rattle.reo_net_base.specs.Wired.{IsWired, IsEnd}
use Rattle.reo_net_laws.specs.Ends.{from_in}
use Rattle.reo_net_laws.specs.Parts.{IsClosed}
use Rattle.reo_net_laws.specs.Alike.{AreAlike}
use Rattle.reo_joint_values.specs.Standing.{no_joint, giver_of, taker_of, given_in, passes_in, FlowsAt, Brings, GivesAlone, GivesFor, CanStand}
use Rattle.reo_joint_values.specs.Standing.CanStand.{alone, passed}
use Rattle.reo_joint_values.specs.Many.{IsJointIn}
use Rattle.reo_joint_values.proofs.InOrder.{giver_at, brings_feeds}
use Rattle.reo_joint_values.proofs.Sources.{source_is}
use Rattle.reo_weights.proofs.still.EndLemmas.{rows_alike, mark_alike, passes_alike, from_alike, given_alike}

module _ (bs ds : List Behaviour) (js : List Joint) (wired : IsWired (record { primitives = bs; joints = js })) (inside : ℕ → Bool)
    (alike : AreAlike (record { primitives = bs; joints = js }) (record { primitives = ds; joints = js }) inside)
    (closed : IsClosed (record { primitives = bs; joints = js }) inside) where
  abbrev net : Net
  net = record { primitives = bs; joints = js }

  abbrev other : Net
  other = record { primitives = ds; joints = js }

  -- What rows let in at a taker of a joint of the set.
  let_in_alike : (e : End) (e_in : IsEnd bs e) → inside (side_at net e) ≡ true → (row : ℕ) → row < (behaviour_at bs e.primitive).rows ((behaviour_at bs e.primitive).side_of e.end)
      → (behaviour_at bs e.primitive).takes_in e.end ≡ true → (item : Value) → passes_in other row e item ≡ passes_in net row e item
  unfolding passes_in
  let_in_alike e e_in h row row_in takes item = passes_alike bs ds js wired inside alike e e_in h row row_in takes item

  -- A joint of the set: what its giver's primitive says there is the same in both.
  module _ (j : ℕ) (is : IsJointIn net inside j) where
    abbrev e : End
    e = giver_of net j

    e_in : IsEnd bs (giver_of (record { primitives = bs; joints = js }) j)
    e_in = wired.givers j no_joint is.0

    module _ (row : ℕ) (flows : FlowsAt (record { primitives = bs; joints = js }) (giver_of (record { primitives = bs; joints = js }) j) row) where
      row_in : row < (behaviour_at bs (giver_of (record { primitives = bs; joints = js }) j).primitive).rows ((behaviour_at bs (giver_of (record { primitives = bs; joints = js }) j).primitive).side_of (giver_of (record { primitives = bs; joints = js }) j).end)
      row_in = omega (arith, flows.plain)

      flows_there : FlowsAt other e row
      flows_there = record {
        plain = subst (λ (n : ℕ). row + 1 < n) (sym (rows_alike bs ds js wired inside alike e e_in is.1)) flows.plain;
        flows = mark_alike bs ds js wired inside alike e e_in is.1 row row_in ∙ flows.flows;
      }

      from_there : from_in other row e ≡ from_in net row e
      from_there = from_alike bs ds js wired inside alike e e_in is.1 row row_in (wired.gives j no_joint is.0) flows.flows

      given_there : (taken : Option Value) → given_in other row e taken ≡ given_in net row e taken
      unfolding given_in
      given_there taken = given_alike bs ds js wired inside alike e e_in is.1 row row_in (wired.gives j no_joint is.0) flows.flows taken

    alone_there : (row : ℕ) (item : Value) → GivesAlone net e row item → GivesAlone other e row item
    alone_there row item gives = record {
      flows = flows_there row gives.flows;
      alone = from_there row gives.flows ∙ gives.alone;
      given = given_there row gives.flows None ∙ gives.given;
    }

    -- What brings there is a joint of the set.
    module _ (row k : ℕ) (brings : Brings (record { primitives = bs; joints = js }) (giver_of (record { primitives = bs; joints = js }) j) row k) where
      taker_inside : inside (side_at net (taker_of net k)) ≡ true
      taker_inside = ap inside (brings_feeds net wired j row k is.0 brings) ∙ is.1

      brings_inside : IsJointIn net inside k
      brings_inside = (brings.in_range, closed.along k no_joint brings.in_range ∙ taker_inside)

      brings_there : Brings other e row k
      brings_there = record { flows = flows_there row brings.flows; in_range = brings.in_range; from = brings.from; decides = from_there row brings.flows ∙ brings.decides; taker = brings.taker }

      source_row : row < (behaviour_at bs (taker_of net k).primitive).rows ((behaviour_at bs (taker_of net k).primitive).side_of (taker_of net k).end)
      source_row =
          let source = source_is net wired e (giver_at net wired j is.0) row brings.flows brings.from brings.decides in
          subst (λ (x : End). row < (behaviour_at bs x.primitive).rows ((behaviour_at bs x.primitive).side_of x.end)) (sym brings.taker)
          (subst (λ (s : ℕ). row < (behaviour_at bs e.primitive).rows s) (sym source.1) (row_in row brings.flows))

      let_in_there : (taken : Value) → passes_in other row (taker_of net k) taken ≡ passes_in net row (taker_of net k) taken
      let_in_there taken = let_in_alike (taker_of net k) (wired.takers k no_joint brings.in_range) taker_inside row source_row (wired.takes k no_joint brings.in_range) taken

    for_there : (row k : ℕ) (taken item : Value) → GivesFor net e row k taken item → GivesFor other e row k taken item
    for_there row k taken item gives = record {
      brings = brings_there row k gives.brings;
      given = record { let_in = let_in_there row k gives.brings taken ∙ gives.given.let_in; given = given_there row gives.brings.flows (Some taken) ∙ gives.given.given };
    }

  -- An item that can stand at a joint of the set can stand there in the other.
  pub stands_there : (j : ℕ) (item : Value) → IsJointIn net inside j → CanStand net j item → CanStand other j item
  stands_there j item is (alone i row x lt gives) = alone i row x lt (alone_there i is row x gives)
  stands_there j item is (passed i row k taken x lt gives before) =
      passed i row k taken x lt (for_there i is row k taken x gives) (stands_there k taken (brings_inside i is row k gives.brings) before)
