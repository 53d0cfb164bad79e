-- Where the joints that flow stay the same.
use Rattle.std.proofs.Common.{◌≡◌, ◌∙◌, ℕ, zero, suc, ◌<◌, Bool, true, false, cond, List, [], ◌∷◌, length, get_or, ap, sym, subst, refl, arith}
use Rattle.std.specs.Prelude.{filter}
use Rattle.reo_values.proofs.Sequences.{filter_same}
use Rattle.reo_net_base.specs.declared.joint.End.{End}
use Rattle.reo_net_base.specs.declared.joint.Joint.{Joint}
use Rattle.reo_net_base.specs.Behaviour.{Behaviour}
use Rattle.reo_net_base.specs.Marks.{is_flow}
use Rattle.reo_net_base.specs.Net.{Net, mark_at, side_at}
use Rattle.reo_net_base.specs.Shapes.{SameShapes}
use Rattle.reo_net_base.specs.Wired.{IsWired, IsEnd, IsOrder}
use Rattle.reo_net_circuit.proofs.ReshapeLemmas.{side_same, order_same}
use Rattle.reo_net_laws.proofs.Orders.{place_in}
use Rattle.reo_joint_values.specs.Standing.{giver_of, no_joint}
use Rattle.reo_joint_values.specs.InOrder.{joints_in}
use Rattle.reo_flows.specs.flowing.Flowing.{AreFlowingOf, flowing_of, flows_by}

-- What passes one test among what passes another.
filter_both : (f h g : ℕ → Bool) (xs : List ℕ) → ((m : ℕ) → m < length xs → g (get_or xs m 0) ≡ true → f (get_or xs m 0) ≡ h (get_or xs m 0)) → filter f (filter g xs) ≡ filter h (filter g xs)
filter_both f h g [] same = refl
filter_both f h g (x ∷ xs) same =
    let rest = filter_both f h g xs (λ m lt is. same (suc m) (omega arith) is) in
    elim (g x) as (λ t. g x ≡ t → filter f (cond t (x ∷ filter g xs) (filter g xs)) ≡ filter h (cond t (x ∷ filter g xs) (filter g xs))) [
      | true ↦ λ is. let here = same zero (omega arith) is in λ i. cond (here i) (x ∷ rest i) (rest i)
      | false ↦ λ is. rest
    ] refl

module _ (bs ds : List Behaviour) (js : List Joint) (wired : IsWired (record { primitives = bs; joints = js })) (shapes : SameShapes bs ds) (inside : ℕ → Bool) (rows others : List ℕ) where
  abbrev old : Net
  old = record { primitives = bs; joints = js }

  abbrev new : Net
  new = record { primitives = ds; joints = js }

  module _ (all : List ℕ) (is : IsOrder old all) where
    same_joints : joints_in old inside all ≡ joints_in new inside all
    same_joints = filter_same (λ (j : ℕ). inside (side_at old (giver_of old j))) (λ (j : ℕ). inside (side_at new (giver_of new j))) all
        (λ m lt. ap inside (sym (side_same bs ds shapes js (giver_of old (get_or all m 0)) (wired.givers (get_or all m 0) no_joint (place_in old all is m lt)))))

    same_flow : ((e : End) → IsEnd bs e → inside (side_at old e) ≡ true → mark_at new others e ≡ mark_at old rows e) → flowing_of old rows (joints_in old inside all) ≡ flowing_of new others (joints_in old inside all)
    same_flow marks = filter_both (flows_by old rows) (flows_by new others) (λ (j : ℕ). inside (side_at old (giver_of old j))) all
        (λ m lt here. ap is_flow (sym (marks (giver_of old (get_or all m 0)) (wired.givers (get_or all m 0) no_joint (place_in old all is m lt)) here)))

  flowing_on : ((e : End) → IsEnd bs e → inside (side_at old e) ≡ true → mark_at new others e ≡ mark_at old rows e) → (list : List ℕ) → AreFlowingOf old inside rows list → AreFlowingOf new inside others list
  flowing_on marks list are = record {
    all = are.all;
    is_order = order_same bs ds shapes js wired are.all are.is_order;
    those = are.those ∙ same_flow are.all are.is_order marks ∙ ap (flowing_of new others) (same_joints are.all are.is_order);
  }

-- The joints that flow in a set stay the same where the marks there do.
pub flowing_stay : (net other : Net) → IsWired net → other.joints ≡ net.joints → SameShapes net.primitives other.primitives → (inside : ℕ → Bool) (rows others : List ℕ)
    → ((e : End) → IsEnd net.primitives e → inside (side_at net e) ≡ true → mark_at other others e ≡ mark_at net rows e) → (list : List ℕ) → AreFlowingOf net inside rows list → AreFlowingOf other inside others list
flowing_stay net other wired joints shapes inside rows others marks list are =
    let same_net : record { primitives = other.primitives; joints = net.joints } ≡ other = λ i. record { primitives = other.primitives; joints = sym joints i } in
    subst (λ (n : Net). AreFlowingOf n inside others list) same_net
    (flowing_on net.primitives other.primitives net.joints wired shapes inside rows others (λ e e_in h. ap (λ (n : Net). mark_at n others e) same_net ∙ marks e e_in h) list are)
