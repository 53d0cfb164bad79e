-- Whether something flows in a part, by its joints or by rows that are the same there.
use Rattle.std.proofs.Common.{◌≡◌, ◌≢◌, ◌∙◌, inl, inr, ℕ, zero, suc, ◌<◌, Bool, true, false, cond, not, List, [], ◌∷◌, length, get_or, refl, ap, sym, subst, arith}
use Rattle.std.proofs.lemmas.Bool.{both_ways}
use Rattle.std.specs.Prelude.{filter, ◌==◌}
use Rattle.std.proofs.lemmas.Bool.Decides.{nat_tests}
use Rattle.std.proofs.lemmas.List.Elements.{Contains-get_or}
use Rattle.std.proofs.lemmas.List.{get_or_default}
use Rattle.reo_net_base.specs.declared.mark.Mark.TheVariants.{F}
use Rattle.reo_net_base.specs.declared.joint.End.{End}
use Rattle.reo_net_base.specs.Behaviour.{Behaviour}
use Rattle.reo_net_base.specs.Net.{Net, behaviour_at, mark_at, row_at, side_at}
use Rattle.reo_net_base.specs.Colouring.{RowsFit}
use Rattle.reo_net_base.specs.Sides.{side_count}
use Rattle.reo_net_base.specs.Wired.{IsWired, IsEnd}
use Rattle.reo_net_base.proofs.Marks.{giver_flows, mark_flows, mark_still}
use Rattle.reo_net_laws.specs.Parts.{IsClosed}
use Rattle.reo_net_laws.proofs.Joined.{joint_of}
use Rattle.reo_net_laws.proofs.Sides.{side_in_range}
use Rattle.reo_joint_values.specs.Standing.{no_joint, giver_of, taker_of}
use Rattle.reo_joint_values.specs.InOrder.{joints_in}
use Rattle.reo_flows.specs.flowing.Flowing.{AreFlowingOf, flowing_of, flows_by}
use Rattle.reo_flows.proofs.flowing.Passing.{next_from, nothing_there}
use Rattle.reo_search_tables.specs.Orders.{AreJointsOf}
use Rattle.reo_search_tables.proofs.Sorted.{joints_of_set}
use Rattle.reo_weights.specs.still.Still.{IsStill}
use Rattle.reo_planning.specs.Keeping.{FlowsIn}
use Rattle.reo_planning.specs.Marked.{TellsFlow}

pass_rest : (f : ℕ → Bool) (x : ℕ) (xs : List ℕ) → f x ≡ false → ((m : ℕ) → m < length xs → f (get_or xs m 0) ≡ false) → (m : ℕ) → m < length (x ∷ xs) → f (get_or (x ∷ xs) m 0) ≡ false
pass_rest f x xs is rest zero lt = is
pass_rest f x xs is rest (suc m) lt = rest m (omega arith)

none_pass : (f : ℕ → Bool) (xs : List ℕ) → filter f xs ≡ [] → (m : ℕ) → m < length xs → f (get_or xs m 0) ≡ false
none_pass f [] e = λ m lt. absurd (omega arith)
none_pass f (x ∷ xs) e = elim (f x) as (λ t. f x ≡ t → filter f (x ∷ xs) ≡ [] → (m : ℕ) → m < length (x ∷ xs) → f (get_or (x ∷ xs) m 0) ≡ false) [
  | true ↦ λ is e. absurd (nothing_there x (filter f xs) (sym e ∙ ap (λ (t : Bool). cond t (x ∷ filter f xs) (filter f xs)) is))
  | false ↦ λ is e. pass_rest f x xs is (none_pass f xs (ap (λ (t : Bool). cond t (x ∷ filter f xs) (filter f xs)) (sym is) ∙ e))
] refl e

some_long : (x : ℕ) (xs : List ℕ) → not (length (x ∷ xs) == 0) ≡ true
some_long x xs = grind (arith, nat_tests)

-- By the joints of a set.
module _ (net : Net) (wired : IsWired net) (inside : ℕ → Bool) (joints : List ℕ) (are : AreJointsOf net inside joints) (rows : List ℕ) where
  -- Nothing flows where none of them does.
  none_flow : IsClosed net inside → RowsFit net rows → ((m : ℕ) → m < length joints → flows_by net rows (get_or joints m 0) ≡ false) → TellsFlow net inside rows false
  none_flow closed fit none = record { still = λ _. still; flows = λ e. absurd (both_ways false refl e) }
    where
      giver_not : (j : ℕ) → j < length net.joints → inside (side_at net (giver_of net j)) ≡ true → mark_at net rows (giver_of net j) ≢ F
      giver_not j lt here =
          let place = (are.exact j).1 (lt, here) in
          let is : get_or joints place.0 0 ≡ j = get_or_default joints place.0 0 j place.1 ∙ place.2 in
          mark_still (mark_at net rows (giver_of net j)) (subst (λ (i : ℕ). flows_by net rows i ≡ false) is (none place.0 place.1))

      still : IsStill net inside rows
      still e e_in h flows =
          let at = joint_of net wired e e_in in
          let j : ℕ = at.0 in
          let inside_of : End → Bool = λ x. inside (side_at net x) in
          elim (at.2 no_joint) [
            | inl g ↦ giver_not j at.1 (ap inside_of g ∙ h) (ap (mark_at net rows) g ∙ flows)
            | inr t ↦ giver_not j at.1 (closed.along j no_joint at.1 ∙ ap inside_of t ∙ h)
                (giver_flows (mark_at net rows (giver_of net j)) (mark_at net rows (taker_of net j)) (fit.matched j no_joint at.1) (ap (mark_at net rows) t ∙ flows))
          ]

  -- Something flows where some of them does.
  one_flows : (m : ℕ) → m < length joints → flows_by net rows (get_or joints m 0) ≡ true → TellsFlow net inside rows true
  one_flows m lt flows = record {
    still = λ e. absurd (both_ways true e refl);
    flows = λ _.
        let is = (are.exact (get_or joints m 0)).0 (Contains-get_or joints m 0 lt) in
        record { end = giver_of net (get_or joints m 0); is_end = wired.givers (get_or joints m 0) no_joint is.0; here = is.1; flows = mark_flows (mark_at net rows (giver_of net (get_or joints m 0))) flows };
  }

-- Whether something flows in a set is told by whether a joint of it flows.
pub told_by_joints : (net : Net) → IsWired net → (inside : ℕ → Bool) → IsClosed net inside → (rows : List ℕ) → RowsFit net rows → (flowing : List ℕ) → AreFlowingOf net inside rows flowing
    → (empty : Bool) → empty ≡ (length flowing == 0) → TellsFlow net inside rows (not empty)
told_by_joints net wired inside closed rows fit flowing of empty is = subst (λ (t : Bool). TellsFlow net inside rows (not t)) (sym is) (told flowing of.those)
  where
    joints : List ℕ
    joints = joints_in net inside of.all

    are : AreJointsOf net inside joints
    are = joints_of_set net wired of.all of.is_order inside closed

    told : (list : List ℕ) → list ≡ flowing_of net rows joints → TellsFlow net inside rows (not (length list == 0))
    told [] none = none_flow net wired inside joints are rows closed fit (none_pass (flows_by net rows) joints (sym none))
    told (x ∷ list) some =
        let next = next_from (flows_by net rows) joints (λ _. Unit {0}) (λ n lt not far. tt) (length joints) 0 (omega arith) x list (sym some) tt in
        let flows : flows_by net rows (get_or joints next.place 0) ≡ true = ap (flows_by net rows) next.here ∙ next.passes in
        subst (TellsFlow net inside rows) (sym (some_long x list)) (one_flows net wired inside joints are rows next.place next.in_range flows)

-- The mark of an end by the row of its side.
mark_by : (net : Net) (rows : List ℕ) (e : End)
    → mark_at net rows e ≡ (behaviour_at net.primitives e.primitive).mark ((behaviour_at net.primitives e.primitive).side_of e.end) (get_or rows (side_at net e) 0) e.end
unfolding mark_at row_at
mark_by net rows e = ap (mark_at net rows) (λ i. e)

-- By rows that are the same in a set.
module _ (net : Net) (wired : IsWired net) (inside : ℕ → Bool) (rows others : List ℕ) (same : (s : ℕ) → s < side_count net → inside s ≡ true → get_or others s 0 ≡ get_or rows s 0) where
  pub mark_same : (e : End) → IsEnd net.primitives e → inside (side_at net e) ≡ true → mark_at net others e ≡ mark_at net rows e
  mark_same e e_in h =
      let b : Behaviour = behaviour_at net.primitives e.primitive in
      mark_by net others e ∙ ap (λ (r : ℕ). b.mark (b.side_of e.end) r e.end) (same (side_at net e) (side_in_range net wired e e_in) h) ∙ sym (mark_by net rows e)

  pub still_same : IsStill net inside rows → IsStill net inside others
  still_same still e e_in h flows = still e e_in h (sym (mark_same e e_in h) ∙ flows)

  pub told_same : (flag : Bool) → TellsFlow net inside rows flag → TellsFlow net inside others flag
  told_same flag told = record {
    still = λ e. still_same (told.still e);
    flows = λ e.
        let flow : FlowsIn net inside rows = told.flows e in
        record { end = flow.end; is_end = flow.is_end; here = flow.here; flows = mark_same flow.end flow.is_end flow.here ∙ flow.flows };
  }
