-- The loop joints of a part, and its bounds.
use Rattle.std.proofs.Common.{◌≡◌, ◌∙◌, ℕ, ◌+◌, ◌<◌, ◌≤◌, List, true, length, get_or, arith, ap}
use Rattle.std.specs.Prelude.{map}
use Rattle.std.proofs.lemmas.List.{get_or_default}
use Rattle.std.proofs.lemmas.List.Elements.{Contains-get_or}
use Rattle.reo_net_base.specs.declared.joint.Joint.{Joint}
use Rattle.reo_net_base.specs.Net.{Net, side_at}
use Rattle.reo_net_base.specs.Wired.{IsWired}
use Rattle.reo_net_laws.proofs.Sides.{side_in_range}
use Rattle.reo_net_laws.specs.Knots.{Knotted, AreKnots, in_knot, knot_count}
use Rattle.reo_joint_values.specs.Standing.{no_joint, giver_of}
use Rattle.reo_joint_values.specs.Many.{IsJointIn}
use Rattle.reo_weights.specs.Bounds.{AreLoopsIn, most_choices}
use Rattle.reo_weights.specs.Weights.{product_of}
use Rattle.reo_item_bounds.specs.Bounds.{IsBoundAt, HasBounds}

module _ (net : Net) (wired : IsWired net) (knots : Knotted) (are : AreKnots net knots) (k : ℕ) (lt : k < knot_count knots) where
  in_there : (j : ℕ) → j < length net.joints → get_or knots.numbers (side_at net (giver_of net j)) 0 ≡ k → in_knot knots.numbers k (side_at net (giver_of net j)) ≡ true
  in_there j j_in here =
      let below = side_in_range net wired (giver_of net j) (wired.givers j no_joint j_in) in
      let all = are.numbered.one_each in
      grind (arith, below, all, here)

  here_in : (j : ℕ) → in_knot knots.numbers k (side_at net (giver_of net j)) ≡ true → get_or knots.numbers (side_at net (giver_of net j)) 0 ≡ k
  here_in j is = grind arith

  -- The loop joints that knots list are those that start in the part.
  pub loops_in : (d : List ℕ) → AreLoopsIn net (in_knot knots.numbers k) (get_or knots.loop_joints k d)
  loops_in d =
      let those = are.loops_are k d lt in
      record {
        increasing = those.increasing;
        exact = λ j. (
          λ h. let it = (those.exact j).0 h in ((it.in_range, in_there j it.in_range (it.here no_joint)), it.closes),
          λ h. (those.exact j).1 (record { in_range = h.0.0; closes = h.1; here = λ e. ap (λ (x : Joint). get_or knots.numbers (side_at net x.giver) 0) (get_or_default net.joints j e no_joint h.0.0) ∙ here_in j h.0.1 }),
        );
      }

  -- Each is one of the circuit's joints.
  pub loops_below : (d : List ℕ) (m : ℕ) → m < length (get_or knots.loop_joints k d) → get_or (get_or knots.loop_joints k d) m 0 < length net.joints
  loops_below d m m_in = (((are.loops_are k d lt).exact (get_or (get_or knots.loop_joints k d) m 0)).0 (Contains-get_or (get_or knots.loop_joints k d) m 0 m_in)).in_range

  pub has_bounds : (d : List ℕ) (bound : ℕ → ℕ) → ((j : ℕ) → IsJointIn net (in_knot knots.numbers k) j → IsBoundAt net bound j)
      → (choices : ℕ) → product_of (map (λ j. bound j + 4) (get_or knots.loop_joints k d)) ≡ choices → HasBounds net (in_knot knots.numbers k) choices
  has_bounds d bound each choices is = record {
    bound = bound;
    each = each;
    loops = get_or knots.loop_joints k d;
    are_loops = loops_in d;
    product = let le : most_choices bound (get_or knots.loop_joints k d) ≤ product_of (map (λ j. bound j + 4) (get_or knots.loop_joints k d)) = grind arith in omega (arith, le, is);
  }
