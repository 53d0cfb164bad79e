-- Each circuit has knots.
use Rattle.std.proofs.Common.{◌≡◌, inl, inr, ℕ, ◌<◌, Bool, false, List, length, map, get_or, sym, subst, arith}
use Rattle.std.specs.Prelude.{◌↔◌, ◌==◌, ◌&&◌, IsTrue, filter}
use Rattle.std.specs.List.{range_with_len}
use Rattle.std.proofs.lemmas.Bool.{cases_lt}
use Rattle.std.proofs.lemmas.List.FromFn.{get_or-map-range_with_len, length-map-range_with_len}
use Rattle.reo_net_base.specs.Net.{Net, side_at}
use Rattle.reo_net_base.specs.Sides.{side_count}
use Rattle.reo_net_base.specs.Wired.{IsWired}
use Rattle.reo_net_laws.specs.KnotLabels.{AreLoops}
use Rattle.reo_net_laws.specs.Knots.{Knotted, knotted, AreNumbers, AreThose, AreKnots, IsLoop, IsLoopOf, in_knot, knot_count}
use Rattle.reo_net_laws.specs.Parts.{SameKnot}
use Rattle.reo_net_laws.specs.Sublists.{sides_in}
use Rattle.reo_net_laws.proofs.Knots.{knot, loop_joints}
use Rattle.reo_joint_values.specs.Standing.{no_joint}
use Rattle.reo_weights.proofs.Decisions.{is_so, so_true, true_so}
use Rattle.reo_weights.proofs.PartLists.{loop_decided}

module _ (net : Net) (wired : IsWired net) where
  -- Whether a joint closes a loop.
  pub flag_by : (j : ℕ) → (b : Bool) × (j < length net.joints → IsTrue b ↔ IsLoop net j)
  flag_by j = elim (cases_lt j (length net.joints)) [
    | inl lt ↦ (is_so (loop_decided net wired j lt), λ _. (true_so (loop_decided net wired j lt), so_true (loop_decided net wired j lt)))
    | inr ge ↦ (false, λ lt. absurd (omega (arith, lt, ge)))
  ]

  abbrev flags : List Bool
  flags = map (λ (j : ℕ). (flag_by j).0) (range_with_len 0 (length net.joints))

  are_loops : AreLoops net (length net.joints) flags
  are_loops = record {
    one_each = length-map-range_with_len (λ (j : ℕ). (flag_by j).0) 0 (length net.joints);
    exact = λ j lt. subst (λ (b : Bool). IsTrue b ↔ IsLoop net j)
        (sym (get_or-map-range_with_len (λ (j : ℕ). (flag_by j).0) 0 (length net.joints) j j false lt (omega arith))) ((flag_by j).1 lt);
  }

  module _ (numbers : List ℕ) (count : ℕ) (are : AreNumbers (SameKnot net) (side_count net) numbers count) where
    abbrev sides_of : ℕ → List ℕ
    sides_of k = sides_in net (in_knot numbers k)

    abbrev loops_of : ℕ → List ℕ
    loops_of k = filter (λ j. get_or flags j false && (get_or numbers (side_at net (get_or net.joints j no_joint).giver) 0 == k)) (range_with_len 0 (length net.joints))

    -- The knots of these numbers.
    abbrev pub some_knots : Knotted
    some_knots = knotted numbers (map sides_of (range_with_len 0 count)) (map loops_of (range_with_len 0 count))

    pub count_is : knot_count some_knots ≡ count
    count_is = length-map-range_with_len sides_of 0 count

    below : (k : ℕ) → k < knot_count some_knots → k < count
    below k lt = subst (λ (n : ℕ). k < n) count_is lt

    pub are_some : AreKnots net some_knots
    are_some = record {
      numbered = subst (AreNumbers (SameKnot net) (side_count net) numbers) (sym count_is) are;
      are_knots = λ k lt. knot net wired numbers count are k (below k lt);
      sides_are = λ k d lt. get_or-map-range_with_len sides_of 0 count k k d (below k lt) (omega arith);
      loops_are = λ k d lt. subst (AreThose (IsLoopOf net numbers k)) (sym (get_or-map-range_with_len loops_of 0 count k k d (below k lt) (omega arith)))
          (loop_joints net wired numbers count are flags are_loops k no_joint);
    }
