-- What a row gives at an end, noted.
use Rattle.std.proofs.Common.{◌≡◌, ◌≢◌, ℕ, List, [], ◌∷◌, ◌++◌, Bool, true, false, cond, Option, None, Some, refl, ap, sym, ◌∙◌, subst, arith}
use Rattle.std.specs.Prelude.{IsSome}
use Rattle.std.specs.List.{flat_map}
use Rattle.reo_values.specs.declared.value.Value.{Value}
use Rattle.reo_net_base.specs.declared.mark.Mark.{Mark}
use Rattle.reo_net_base.specs.declared.mark.Mark.TheVariants.{F, G, R, J}
use Rattle.reo_net_base.specs.declared.joint.End.{End}
use Rattle.reo_net_base.specs.Behaviour.{Behaviour, IsEndOf}
use Rattle.reo_net_base.specs.Lawful.{GivesAt}
use Rattle.reo_net_base.specs.Marks.{is_flow}
use Rattle.reo_net_base.specs.Net.{Net, behaviour_at, end_of}
use Rattle.reo_net_base.specs.Ends.{IsGiver, IsTaker}
use Rattle.reo_net_base.specs.Wired.{IsWired}
use Rattle.reo_net_laws.specs.Ends.{mark_in, from_in}
use Rattle.reo_net_circuit.specs.found_ends.Ends.{joint_at, AreEnds}
use Rattle.reo_net_circuit.proofs.found_ends.EndLemmas.{taker_at}
use Rattle.reo_joint_values.specs.Standing.{no_joint, FlowsAt}
use Rattle.reo_joint_values.specs.Fitting.{given_for, passes_in}
use Rattle.reo_refute_base.specs.Items.{Lists, items_at, joint_into, listed, given_on, given_from}
use Rattle.reo_refute_base.specs.Items.IsAdded.{none}
use Rattle.reo_refute_base.proofs.laws.Listing.{joint_is}
use Rattle.reo_refute_parts.specs.lists.Noted.{IsNoted}
use Rattle.reo_refute_parts.specs.lists.Given.{given_at}

module _ (net : Net) (wired : IsWired net) (giver : End) (is : IsGiver net giver) (row : ℕ) (flows : FlowsAt net giver row) where
  at : Behaviour
  at = behaviour_at net.primitives giver.primitive

  pub gives_by : GivesAt (behaviour_at net.primitives giver.primitive) ((behaviour_at net.primitives giver.primitive).side_of giver.end) row giver.end
  unfolding mark_in
  gives_by = record {
    of_side = (wired.lawful giver.primitive is.is_end.0).sides_in giver.end is.is_end.1;
    in_table = omega (arith, flows.plain);
    is_end = (is.is_end.1, refl);
    gives = is.gives;
    flows = flows.flows;
  }

  pub flows_by : (behaviour_at net.primitives giver.primitive).mark ((behaviour_at net.primitives giver.primitive).side_of giver.end) row giver.end ≡ F
  flows_by = gives_by.flows

  -- Where the state alone decides, something is given.
  pub some_alone : from_in net row giver ≡ None → IsSome ((behaviour_at net.primitives giver.primitive).given ((behaviour_at net.primitives giver.primitive).side_of giver.end) row giver.end None)
  unfolding from_in
  some_alone alone = (wired.lawful giver.primitive is.is_end.0).given_alone ((behaviour_at net.primitives giver.primitive).side_of giver.end) row giver.end gives_by alone

  pub noted_alone : from_in net row giver ≡ None → (item : Value) → (behaviour_at net.primitives giver.primitive).given ((behaviour_at net.primitives giver.primitive).side_of giver.end) row giver.end None ≡ Some item
      → (old before after : List Value) → IsNoted old before (item ∷ []) after → IsNoted old before (listed (given_for net row giver None)) after
  unfolding given_for
  noted_alone alone item given old before after noted = subst (λ (o : Option Value). IsNoted old before (listed o) after) (sym given) noted

  module _ (from : ℕ) (decides : from_in net row giver ≡ Some from) where
    pub source_is : IsEndOf (behaviour_at net.primitives giver.primitive) ((behaviour_at net.primitives giver.primitive).side_of giver.end) from
    unfolding from_in
    source_is = (wired.lawful giver.primitive is.is_end.0).from_end ((behaviour_at net.primitives giver.primitive).side_of giver.end) row giver.end from gives_by decides

    pub source_takes : (behaviour_at net.primitives giver.primitive).takes_in from ≡ true
    unfolding from_in
    source_takes = (wired.lawful giver.primitive is.is_end.0).from_takes ((behaviour_at net.primitives giver.primitive).side_of giver.end) row giver.end from gives_by decides

    pub source_taker : IsTaker net (end_of giver.primitive from)
    source_taker = record { is_end = (is.is_end.0, source_is.0); takes = source_takes }

    -- Where an item decides, something is given for each.
    pub some_for : (item : Value) → IsSome ((behaviour_at net.primitives giver.primitive).given ((behaviour_at net.primitives giver.primitive).side_of giver.end) row giver.end (Some item))
    unfolding from_in
    some_for item = (wired.lawful giver.primitive is.is_end.0).given_for ((behaviour_at net.primitives giver.primitive).side_of giver.end) row giver.end from item gives_by decides

    passes_at : (taken : Value) → passes_in net row (end_of giver.primitive from) taken ≡ (behaviour_at net.primitives giver.primitive).passes ((behaviour_at net.primitives giver.primitive).side_of giver.end) row from taken
    unfolding passes_in
    passes_at taken = ap (λ (s : ℕ). (behaviour_at net.primitives giver.primitive).passes s row from taken) source_is.1

    pub noted_not : (taken : Value) → (behaviour_at net.primitives giver.primitive).passes ((behaviour_at net.primitives giver.primitive).side_of giver.end) row from taken ≡ false
        → (old before : List Value) → IsNoted old before (given_on net row giver (end_of giver.primitive from) taken) before
    noted_not taken fails old before =
        subst (λ (t : Bool). IsNoted old before (cond t (listed (given_for net row giver (Some taken))) []) before) (sym (passes_at taken ∙ fails)) (none (old ++ before))

    pub noted_for : (taken : Value) → (behaviour_at net.primitives giver.primitive).passes ((behaviour_at net.primitives giver.primitive).side_of giver.end) row from taken ≡ true
        → (item : Value) → (behaviour_at net.primitives giver.primitive).given ((behaviour_at net.primitives giver.primitive).side_of giver.end) row giver.end (Some taken) ≡ Some item
        → (old before after : List Value) → IsNoted old before (item ∷ []) after → IsNoted old before (given_on net row giver (end_of giver.primitive from) taken) after
    unfolding given_for
    noted_for taken passes item given old before after noted =
        subst (λ (t : Bool). IsNoted old before (cond t (listed (given_for net row giver (Some taken))) []) after) (sym (passes_at taken ∙ passes))
        (subst (λ (o : Option Value). IsNoted old before (listed o) after) (sym given) noted)

    -- The joint at the end that decides is the one into it.
    pub joint_same : (table : List (List ℕ)) → AreEnds net table → joint_into net (end_of giver.primitive from) ≡ joint_at table (end_of giver.primitive from)
    joint_same table ends =
        joint_is net wired (end_of giver.primitive from) (joint_at table (end_of giver.primitive from)) (ends.in_range (end_of giver.primitive from) source_taker.is_end)
        (taker_at net wired table ends (end_of giver.primitive from) no_joint source_taker)

    pub noted_given : (table : List (List ℕ)) → AreEnds net table → (lists : Lists) (taken : List Value) → taken ≡ items_at lists (joint_at table (end_of giver.primitive from))
        → (old before after : List Value) → IsNoted old before (flat_map (given_on net row giver (end_of giver.primitive from)) taken) after
        → IsNoted old before (given_from net lists row giver (from_in net row giver)) after
    noted_given table ends lists taken same old before after noted =
        let whole : taken ≡ items_at lists (joint_into net (end_of giver.primitive from)) = same ∙ ap (items_at lists) (sym (joint_same table ends)) in
        subst (λ (o : Option ℕ). IsNoted old before (given_from net lists row giver o) after) (sym decides)
        (subst (λ (l : List Value). IsNoted old before (flat_map (given_on net row giver (end_of giver.primitive from)) l) after) whole noted)

-- What is given by the state alone.
pub noted_state : (net : Net) (giver : End) (row : ℕ) → from_in net row giver ≡ None → (lists : Lists) (old before after : List Value)
    → IsNoted old before (listed (given_for net row giver None)) after → IsNoted old before (given_from net lists row giver (from_in net row giver)) after
noted_state net giver row alone lists old before after noted = subst (λ (o : Option ℕ). IsNoted old before (given_from net lists row giver o) after) (sym alone) noted

-- Where a row flows.
pub noted_flow : (net : Net) (lists : Lists) (giver : End) (row : ℕ) → mark_in net row giver ≡ F → (old before after : List Value)
    → IsNoted old before (given_from net lists row giver (from_in net row giver)) after → IsNoted old before (given_at net lists giver row) after
noted_flow net lists giver row flows old before after noted =
    subst (λ (m : Mark). IsNoted old before (cond (is_flow m) (given_from net lists row giver (from_in net row giver)) []) after) (sym flows) noted

-- Where it does not, nothing is given.
pub noted_none : (net : Net) (lists : Lists) (giver : End) (row : ℕ) → mark_in net row giver ≢ F → (old before : List Value) → IsNoted old before (given_at net lists giver row) before
noted_none net lists giver row not_it old before =
    elim (mark_in net row giver) as (λ m. mark_in net row giver ≡ m → IsNoted old before (cond (is_flow m) (given_from net lists row giver (from_in net row giver)) []) before) [
      | F ↦ λ is. absurd (not_it is)
      | G ↦ λ is. none (old ++ before)
      | R ↦ λ is. none (old ++ before)
      | J ↦ λ is. none (old ++ before)
    ] refl
