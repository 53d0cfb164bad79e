-- What can stand where there are fewer rows could stand before.
use Rattle.std.proofs.Common.{◌≡◌, ℕ, List, Bool, Option, None, Some, false, refl, ap, sym, ◌∙◌, arith}
use Rattle.reo_values.specs.declared.value.Value.{Value}
use Rattle.reo_net_base.specs.declared.joint.End.{End}
use Rattle.reo_net_base.specs.declared.joint.Joint.{Joint}
use Rattle.reo_net_base.specs.declared.mark.Mark.TheVariants.{F}
use Rattle.reo_net_base.specs.Behaviour.{Behaviour}
use Rattle.reo_net_base.specs.Net.{Net, behaviour_at, side_at}
use Rattle.reo_net_base.specs.Wired.{IsWired, IsEnd}
use Rattle.reo_net_laws.specs.Ends.{mark_in, from_in}
use Rattle.reo_net_laws.specs.Parts.{IsClosed}
use Rattle.reo_joint_values.specs.Standing.{no_joint, giver_of, taker_of, given_in, passes_in, FlowsAt, Brings, GivesAlone, GivesFor, CanStand}
use Rattle.reo_joint_values.specs.Standing.CanStand.{alone, passed}
use Rattle.reo_joint_values.specs.Many.{IsJointIn}
use Rattle.reo_joint_values.proofs.InOrder.{brings_feeds}
use Rattle.reo_weights.specs.Fewer.{HasFewerRows}
use Rattle.reo_weights.proofs.FewerEnds.{StandsAt, stands_here, old_mark, old_passes, old_plain, old_from, old_given}

module _ (bs ds : List Behaviour) (js : List Joint) (wired : IsWired (record { primitives = bs; joints = js })) (inside : ℕ → Bool)
    (fewer : HasFewerRows (record { primitives = bs; joints = js }) (record { primitives = ds; joints = js }) inside)
    (closed : IsClosed (record { primitives = bs; joints = js }) inside) where
  abbrev net : Net
  net = record { primitives = bs; joints = js }

  abbrev other : Net
  other = record { primitives = ds; joints = js }

  -- A joint of the set, a row that stands for another at its giver's side.
  module _ (j : ℕ) (is : IsJointIn net inside j) (row old : ℕ) (stands : StandsAt bs ds js wired inside fewer (side_at net (giver_of net j)) row old) where
    abbrev e : End
    e = giver_of net j

    e_in : IsEnd bs (giver_of (record { primitives = bs; joints = js }) j)
    e_in = wired.givers j no_joint is.0

    abbrev gives_out : (behaviour_at bs (giver_of (record { primitives = bs; joints = js }) j).primitive).takes_in (giver_of (record { primitives = bs; joints = js }) j).end ≡ false
    gives_out = wired.gives j no_joint is.0

    module _ (flows : FlowsAt other (giver_of net j) row) where
      flows_old : mark_in net old (giver_of net j) ≡ F
      flows_old = sym (old_mark bs ds js wired inside fewer e e_in row old (stands e e_in refl)) ∙ flows.flows

      flows_before : FlowsAt net (giver_of net j) old
      flows_before = record { plain = old_plain bs ds js wired inside fewer e e_in row old (stands e e_in refl) flows_old; flows = flows_old }

      from_before : from_in other row e ≡ from_in net old e
      from_before = old_from bs ds js wired inside fewer e e_in row old (stands e e_in refl) flows_old gives_out

      given_before : (taken : Option Value) → given_in other row e taken ≡ given_in net old e taken
      unfolding given_in
      given_before taken = old_given bs ds js wired inside fewer e e_in row old (stands e e_in refl) flows_old gives_out taken

    alone_before : (item : Value) → GivesAlone other e row item → GivesAlone net e old item
    alone_before item gives = record {
      flows = flows_before gives.flows;
      alone = sym (from_before gives.flows) ∙ gives.alone;
      given = sym (given_before gives.flows None) ∙ gives.given;
    }

    module _ (k : ℕ) (brings : Brings other (giver_of net j) row k) where
      brings_before : Brings net e old k
      brings_before = record { flows = flows_before brings.flows; in_range = brings.in_range; from = brings.from; decides = sym (from_before brings.flows) ∙ brings.decides; taker = brings.taker }

      source_side : side_at net (taker_of net k) ≡ side_at net e
      source_side = brings_feeds net wired j old k is.0 brings_before

      brings_inside : IsJointIn net inside k
      brings_inside = (brings.in_range, closed.along k no_joint brings.in_range ∙ ap inside source_side ∙ is.1)

      let_in_before : (taken : Value) → passes_in other row (taker_of net k) taken ≡ passes_in net old (taker_of net k) taken
      unfolding passes_in
      let_in_before taken =
          let source : End = taker_of net k in
          let source_in = wired.takers k no_joint brings.in_range in
          old_passes bs ds js wired inside fewer source source_in row old (stands source source_in source_side) (wired.takes k no_joint brings.in_range) taken

    for_before : (k : ℕ) (taken item : Value) → GivesFor other e row k taken item → GivesFor net e old k taken item
    for_before k taken item gives = record {
      brings = brings_before k gives.brings;
      given = record { let_in = sym (let_in_before k gives.brings taken) ∙ gives.given.let_in; given = sym (given_before gives.brings.flows (Some taken)) ∙ gives.given.given };
    }

  row_at_giver : (j : ℕ) → IsJointIn net inside j → (row : ℕ) → FlowsAt other (giver_of net j) row → (old : ℕ) × StandsAt bs ds js wired inside fewer (side_at net (giver_of net j)) row old
  row_at_giver j is row flows =
      let found = stands_here bs ds js wired inside fewer (giver_of net j) (wired.givers j no_joint is.0) row is.1 (let plain = flows.plain in omega (arith, plain)) in
      (found.0, found.1)

  -- An item that can stand at a joint of the set could stand there before.
  pub stood : (j : ℕ) (item : Value) → IsJointIn net inside j → CanStand other j item → CanStand net j item
  stood j item is (alone i row x lt gives) =
      let old = row_at_giver i is row gives.flows in
      alone i old.0 x lt (alone_before i is row old.0 old.1 x gives)
  stood j item is (passed i row k taken x lt gives before) =
      let old = row_at_giver i is row gives.brings.flows in
      passed i old.0 k taken x lt (for_before i is row old.0 old.1 k taken x gives) (stood k taken (brings_inside i is row old.0 old.1 k gives.brings) before)
