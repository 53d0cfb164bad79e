-- Sets within their bounds are what a search asks for.
use Rattle.std.proofs.Common.{◌≡◌, inl, inr, ℕ, ◌<◌, List, [], ◌∷◌, ◌++◌, length, get_or, sym, ◌∙◌, subst}
use Rattle.std.specs.Prelude.{nat_lt}
use Rattle.std.specs.Bool.{◌==◌}
use Rattle.std.proofs.lemmas.Bool.{and_parts, eqb-true, or_cases}
use Rattle.std.proofs.lemmas.List.{get_or_default}
use Rattle.reo_net_base.specs.declared.joint.Joint.{Joint}
use Rattle.reo_net_base.specs.Net.{Net, side_at}
use Rattle.reo_net_laws.specs.Knots.{Knotted, AreKnots, IsLoopOf, in_knot, knot_count}
use Rattle.reo_joint_values.specs.declared.value.JointValue.{JointValue}
use Rattle.reo_joint_values.specs.Values.{value_eq, no_joint, giver_side}
use Rattle.reo_support.specs.Sets.{OneAtLoops}
use Rattle.reo_joint_values.proofs.Narrowing.{same_value}
use Rattle.reo_rows.specs.Sets.{code_of}
use Rattle.reo_propagate.specs.ListedSets.{in_set, listed}
use Rattle.reo_propagate.proofs.Listed.{at_most_one, set_more}
use Rattle.reo_yardstick.specs.Bounds.{AreBelow, AreSingle}

-- A value more is below the bound.
pub below_more : (values : List JointValue) (w : JointValue) (bound : ℕ) → AreBelow values bound → code_of w < bound
    → AreBelow (values ++ w ∷ []) bound
below_more values w bound below lt v h = elim (or_cases (in_set values v) (value_eq w v) (sym (set_more values w v) ∙ h)) [
  | inl old ↦ below v old
  | inr here ↦ subst (λ (x : JointValue). code_of x < bound) (same_value w v here) lt
]

-- Loop joints whose sets have at most one value each.
pub one_each : (net : Net) (knots : Knotted) (knot : ℕ) (sets : List (List JointValue)) → AreKnots net knots → knot < knot_count knots
    → AreSingle sets (length (get_or knots.loop_joints knot [])) (get_or knots.loop_joints knot [])
    → OneAtLoops net (in_knot knots.numbers knot) (listed sets)
one_each net knots knot sets are lt single j v w below inside closes hv hw =
    let giver : ℕ = giver_side net j in
    let here : get_or knots.numbers giver 0 ≡ knot = eqb-true (get_or knots.numbers giver 0) knot (and_parts (nat_lt giver (length knots.numbers)) (get_or knots.numbers giver 0 == knot) inside).1 in
    let loops = are.loops_are knot [] lt in
    let loop : IsLoopOf net knots.numbers knot j = record {
      in_range = below;
      closes = closes;
      here = λ d. subst (λ (x : Joint). get_or knots.numbers (side_at net x.giver) 0 ≡ knot) (get_or_default net.joints j no_joint d below) here;
    } in
    let found = (loops.exact j).1 loop in
    let at : get_or (get_or knots.loop_joints knot []) found.0 0 ≡ j = sym (get_or_default (get_or knots.loop_joints knot []) found.0 j 0 found.1) ∙ found.2 in
    at_most_one (get_or sets j []) v w (subst (λ (k : ℕ). length (get_or sets k []) < 2) at (single found.0 found.1)) hv hw
