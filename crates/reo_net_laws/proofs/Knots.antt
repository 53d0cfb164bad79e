-- Knots from labels, numbers and lists.
use Rattle.std.proofs.Common.{◌≡◌, ℕ, ◌<◌, ◌↔◌, List, Bool, true, false, IsTrue, length, get_or, ap, sym, ◌∙◌, arith}
use Rattle.std.proofs.lemmas.Bool.{and_parts, eqb-true, lt-ltb, eq-eqb, ltb-true}
use Rattle.std.specs.Prelude.{◌==◌, ◌&&◌, nat_lt, filter}
use Rattle.std.specs.List.{range_with_len}
use Rattle.std.proofs.lemmas.List.{get_or_default}
use Rattle.reo_net_base.specs.declared.joint.Joint.{Joint}
use Rattle.reo_net_base.specs.Net.{Net, side_at}
use Rattle.reo_net_base.specs.Sides.{side_count}
use Rattle.reo_net_base.specs.Wired.{IsWired}
use Rattle.reo_net_laws.specs.Parts.{SameKnot, IsKnot}
use Rattle.reo_net_laws.specs.Sublists.{sides_in}
use Rattle.reo_net_laws.proofs.Sides.{side_in_range}
use Rattle.reo_net_laws.specs.Knots.{knotted, AreNumbers, AreKnots, AreThose, IsLoopOf, in_knot}
use Rattle.reo_net_laws.specs.KnotLabels.{AreLabels, AreLoops, same_label}
use Rattle.reo_net_laws.specs.KnotGroups.{AreSidesBelow, AreLoopsBelow}
use Rattle.reo_net_laws.proofs.KnotGroups.{same_picked, picked_those}

-- Numbers of labels are numbers of knots.
pub numbered : (net : Net) (labels numbers : List ℕ) (count : ℕ) → AreLabels net (length net.joints) labels → AreNumbers (same_label labels) (length labels) numbers count → AreNumbers (SameKnot net) (side_count net) numbers count
numbered net labels numbers count are numbers_are =
    let n = are.one_each in
    record {
      one_each = numbers_are.one_each ∙ n;
      in_range = λ s lt. numbers_are.in_range s (omega arith);
      same = λ s t s_in t_in.
          let by_label = numbers_are.same s t (omega arith) (omega arith) in
          let by_knot = are.exact s t s_in t_in in
          (λ e. by_knot.0 (by_label.0 e), λ h. by_label.1 (by_knot.1 h));
      each = λ k lt. let it = numbers_are.each k lt in (it.0, omega (arith, it.1), it.2);
      by_least = λ s k lt below. numbers_are.by_least s k (omega arith) below;
    }

module _ (net : Net) (wired : IsWired net) (numbers : List ℕ) (count : ℕ) (are : AreNumbers (SameKnot net) (side_count net) numbers count) where
  in_at : (k s : ℕ) → s < side_count net → in_knot numbers k s ≡ (get_or numbers s 0 == k)
  in_at k s lt = ap (λ (t : Bool). t && (get_or numbers s 0 == k)) (lt-ltb s (length numbers) (omega (arith, are.one_each)))

  below : (k s : ℕ) → in_knot numbers k s ≡ true → s < side_count net
  below k s h =
      let lt = ltb-true s (length numbers) ((and_parts (nat_lt s (length numbers)) (get_or numbers s 0 == k) h).0) in
      omega (arith, lt, are.one_each)

  number_is : (k s : ℕ) → in_knot numbers k s ≡ true → get_or numbers s 0 ≡ k
  number_is k s h = eqb-true (get_or numbers s 0) k ((and_parts (nat_lt s (length numbers)) (get_or numbers s 0 == k) h).1)

  -- The sides of a number are a knot.
  pub knot : (k : ℕ) → k < count → IsKnot net (in_knot numbers k)
  knot k lt =
      let it = are.each k lt in
      record {
        some = (it.0, it.1, in_at k it.0 it.1 ∙ eq-eqb (get_or numbers it.0 0) k it.2);
        closed = record {
          along = λ j d j_in.
              let giver = side_in_range net wired (get_or net.joints j d).giver (wired.givers j d j_in) in
              let taker = side_in_range net wired (get_or net.joints j d).taker (wired.takers j d j_in) in
              let same = (are.same (side_at net (get_or net.joints j d).giver) (side_at net (get_or net.joints j d).taker) giver taker).1 (λ inside closed. closed.along j d j_in) in
              in_at k (side_at net (get_or net.joints j d).giver) giver ∙ ap (λ (x : ℕ). x == k) same ∙ sym (in_at k (side_at net (get_or net.joints j d).taker) taker);
        };
        joined = λ s t s_in t_in. (are.same s t (below k s s_in) (below k t t_in)).0 (number_is k s s_in ∙ sym (number_is k t t_in));
      }

  -- The sides of a number, in order.
  pub sides : (k : ℕ) → filter (λ s. get_or numbers s 0 == k) (range_with_len 0 (length numbers)) ≡ sides_in net (in_knot numbers k)
  sides k = ap (λ (n : ℕ). filter (λ s. get_or numbers s 0 == k) (range_with_len 0 n)) are.one_each ∙ same_picked (λ s. get_or numbers s 0 == k) (in_knot numbers k) (side_count net) (λ s lt. sym (in_at k s lt))

  -- The loop joints of a number, in order.
  module _ (loops : List Bool) (loops_are : AreLoops net (length net.joints) loops) where
    says : (k : ℕ) (e : Joint) (j : ℕ) → ((j < length net.joints) × ((get_or loops j false && (get_or numbers (side_at net (get_or net.joints j e).giver) 0 == k)) ≡ true)) ↔ IsLoopOf net numbers k j
    says k e j = (
      λ h. record {
        in_range = h.0;
        closes = (loops_are.exact j h.0).0 ((and_parts (get_or loops j false) (get_or numbers (side_at net (get_or net.joints j e).giver) 0 == k) h.1).0);
        here = λ d.
            ap (λ (x : Joint). get_or numbers (side_at net x.giver) 0) (get_or_default net.joints j d e h.0)
            ∙ eqb-true (get_or numbers (side_at net (get_or net.joints j e).giver) 0) k ((and_parts (get_or loops j false) (get_or numbers (side_at net (get_or net.joints j e).giver) 0 == k) h.1).1);
      },
      λ is. (is.in_range, both (get_or loops j false) (get_or numbers (side_at net (get_or net.joints j e).giver) 0 == k) ((loops_are.exact j is.in_range).1 is.closes) (eq-eqb (get_or numbers (side_at net (get_or net.joints j e).giver) 0) k (is.here e))),
    )
      where
        both : (a b : Bool) → IsTrue a → b ≡ true → (a && b) ≡ true
        both a b h g = cc

    pub loop_joints : (k : ℕ) (e : Joint) → AreThose (IsLoopOf net numbers k) (filter (λ j. get_or loops j false && (get_or numbers (side_at net (get_or net.joints j e).giver) 0 == k)) (range_with_len 0 (length net.joints)))
    loop_joints k e = picked_those (IsLoopOf net numbers k) (λ j. get_or loops j false && (get_or numbers (side_at net (get_or net.joints j e).giver) 0 == k)) (length net.joints) (says k e)

-- Numbers and lists are the knots.
pub knots : (net : Net) → IsWired net → (numbers : List ℕ) (loops : List Bool) (count : ℕ) (sides loop_joints : List (List ℕ)) → AreNumbers (SameKnot net) (side_count net) numbers count → AreLoops net (length net.joints) loops
    → AreSidesBelow numbers (length numbers) sides count → AreLoopsBelow net numbers loops (length net.joints) loop_joints count → AreKnots net (knotted numbers sides loop_joints)
knots net wired numbers loops count sides_of loops_of are loops_are sides_are grouped = record {
  numbered = rw sides_are.one_each are;
  are_knots = λ k lt. knot net wired numbers count are k (omega (arith, sides_are.one_each));
  sides_are = λ k d lt. sides_are.each k d (omega (arith, sides_are.one_each)) ∙ sides net wired numbers count are k;
  loops_are = λ k d lt.
      let group = grouped some in
      rw (group.each k d (omega (arith, sides_are.one_each))) (loop_joints net wired numbers count are loops loops_are k some);
}
  where
    some : Joint
    some = record { giver = record { primitive = 0; end = 0 }; taker = record { primitive = 0; end = 0 } }
