-- Parts with bounds that tables tell are within a budget.
use Rattle.std.proofs.Common.{◌≡◌, ℕ, ◌<◌, ◌≤◌, ◌&&◌, Bool, true, false, Some, length, refl, ap, sym, ◌∙◌, subst, arith, nat_lt}
use Rattle.reo_net_base.specs.declared.joint.End.{End}
use Rattle.reo_net_base.specs.Behaviour.{Behaviour}
use Rattle.reo_net_base.specs.Lawful.{GivesAt}
use Rattle.reo_net_base.specs.Net.{Net, behaviour_at, end_of, side_at}
use Rattle.reo_net_base.specs.Wired.{IsWired}
use Rattle.reo_net_laws.specs.Ends.{mark_in, from_in}
use Rattle.reo_joint_values.specs.Standing.{no_joint, giver_of, taker_of, FlowsAt, Brings}
use Rattle.reo_joint_values.specs.Many.{IsJointIn}
use Rattle.reo_weights.specs.Bounds.{AreBounds, sum_below, giver_rows}
use Rattle.reo_weights.proofs.BoundWeights.{bounded_within}
use Rattle.reo_item_bounds.specs.Bounds.{ComesIn, IsBoundAt}
use Rattle.reo_item_bounds.specs.Laws.{BoundedPartsAreWithin}

module _ (net : Net) (wired : IsWired net) where
  -- A row that flows gives.
  gives_at : (j row : ℕ) → j < length net.joints → FlowsAt net (giver_of net j) row
      → GivesAt (behaviour_at net.primitives (giver_of net j).primitive) ((behaviour_at net.primitives (giver_of net j).primitive).side_of (giver_of net j).end) row (giver_of net j).end
  unfolding mark_in
  gives_at j row lt flows =
      let e_in = wired.givers j no_joint lt in
      let plain = flows.plain in
      record {
        of_side = (wired.lawful (giver_of net j).primitive e_in.0).sides_in (giver_of net j).end e_in.1;
        in_table = omega (arith, plain);
        is_end = (e_in.1, refl);
        gives = wired.gives j no_joint lt;
        flows = flows.flows;
      }

  mark_at_end : (row i from : ℕ) → mark_in net row (end_of i from) ≡ (behaviour_at net.primitives i).mark ((behaviour_at net.primitives i).side_of from) row from
  unfolding mark_in
  mark_at_end row i from = refl

  from_at : (row : ℕ) (e : End) → from_in net row e ≡ (behaviour_at net.primitives e.primitive).from ((behaviour_at net.primitives e.primitive).side_of e.end) row e.end
  unfolding from_in
  from_at row e = refl

  -- What brings comes in.
  comes_in : (j row k : ℕ) → j < length net.joints → Brings net (giver_of net j) row k → ComesIn net j row k
  comes_in j row k lt brings =
      let e : End = giver_of net j in
      let b : Behaviour = behaviour_at net.primitives e.primitive in
      let law = wired.lawful e.primitive (wired.givers j no_joint lt).0 in
      let gives = gives_at j row lt brings.flows in
      let decides : b.from (b.side_of e.end) row e.end ≡ Some brings.from = sym (from_at row e) ∙ brings.decides in
      let at = law.from_end (b.side_of e.end) row e.end brings.from gives decides in
      let flows = law.from_flows (b.side_of e.end) row e.end brings.from gives decides in
      let taker : taker_of net k ≡ end_of e.primitive brings.from = brings.taker in
      record {
        flows = brings.flows;
        in_range = brings.in_range;
        primitive = ap (λ (t : End). t.primitive) taker;
        side = ap (λ (t : End). b.side_of t.end) taker ∙ at.1;
        comes = ap (mark_in net row) taker ∙ mark_at_end row e.primitive brings.from ∙ ap (λ (s : ℕ). b.mark s row brings.from) at.1 ∙ flows;
      }

module _ (net : Net) (wired : IsWired net) (inside : ℕ → Bool) (bound : ℕ → ℕ) (each : (j : ℕ) → IsJointIn net inside j → IsBoundAt net bound j) where
  -- Whether a joint is in the set.
  abbrev is_in : ℕ → Bool
  is_in j = nat_lt j (length net.joints) && inside (side_at net (giver_of net j))

  told : (j : ℕ) → is_in j ≡ true → IsJointIn net inside j
  told j e = grind arith

  in_there : (j : ℕ) → IsJointIn net inside j → is_in j ≡ true
  in_there j is = grind (arith, is.0, is.1)

  share_by : (j : ℕ) (t : Bool) → is_in j ≡ t → ℕ → ℕ
  share_by j true e = (each j (told j e)).share
  share_by j false e = λ _. 0

  shares : ℕ → ℕ → ℕ
  shares j = share_by j (is_in j) refl

  -- The shares of a joint of the set are those of its bound.
  record IsShareOf (j : ℕ) (f : ℕ → ℕ) : Type 0 where
    is : IsJointIn net inside j
    here : f ≡ (each j is).share

  share_is : (j : ℕ) (t : Bool) (e : is_in j ≡ t) → t ≡ true → IsShareOf j (share_by j t e)
  unfolding share_by
  share_is j true e h = record { is = told j e; here = refl }
  share_is j false e h = absurd (let wrong : false ≡ true = h in cc)

  shares_are : (j : ℕ) → IsJointIn net inside j → IsShareOf j (shares j)
  unfolding shares
  shares_are j is = share_is j (is_in j) refl (in_there j is)

  are_bounds : AreBounds net inside bound
  are_bounds = record {
    share = shares;
    together = λ j is. let s = shares_are j is in subst (λ (f : ℕ → ℕ). sum_below (giver_rows net j) f ≤ bound j) (sym s.here) (each j s.is).together;
    alone = λ j row is flows from. let s = shares_are j is in subst (λ (f : ℕ → ℕ). 1 ≤ f row) (sym s.here) ((each j s.is).one row flows);
    passed = λ j row k is brings. let s = shares_are j is in
        subst (λ (f : ℕ → ℕ). bound k ≤ f row) (sym s.here) ((each j s.is).passed row k (comes_in net wired j row k is.0 brings));
  }

pub within : BoundedPartsAreWithin
within net wired order is_order inside closed choices has budget le =
    let product = has.product in
    bounded_within net wired order is_order inside closed has.bound (are_bounds net wired inside has.bound has.each) (λ j is. (has.each j is).few) has.loops has.are_loops budget (omega (arith, le, product))
