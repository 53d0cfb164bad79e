-- The knots of circuits of one shape.
use Rattle.std.proofs.Common.{◌≡◌, ℕ, ◌<◌, ◌≤◌, List, Bool, length, get_or, ap, sym, ◌∙◌, subst, arith}
use Rattle.std.specs.Prelude.{filter}
use Rattle.std.specs.List.{range_with_len}
use Rattle.reo_net_base.specs.declared.joint.Joint.{Joint}
use Rattle.reo_net_base.specs.Behaviour.{Behaviour}
use Rattle.reo_net_base.specs.Net.{Net, all_sides, side_at}
use Rattle.reo_net_base.specs.Shapes.{SameShapes}
use Rattle.reo_net_base.specs.Sides.{side_count}
use Rattle.reo_net_base.specs.Wired.{IsWired}
use Rattle.reo_listing.proofs.ReshapeLemmas.{side_same}
use Rattle.reo_net_laws.specs.Parts.{IsClosedBelow, IsLinked, SameKnot, IsKnot}
use Rattle.reo_net_laws.proofs.Shapes.{count_same}
use Rattle.reo_listing.specs.laws.Shapes.{KnotsStayWithShape}
use Rattle.reo_net_laws.specs.Knots.{Knotted, AreNumbers, AreKnots, IsLoopOf, in_knot, knot_count}

module _ (bs ds : List Behaviour) (js : List Joint) (wired : IsWired (record { primitives = bs; joints = js })) (r : SameShapes bs ds) where
  abbrev net : Net
  net = record { primitives = bs; joints = js }

  abbrev other : Net
  other = record { primitives = ds; joints = js }

  giver_same : (j : ℕ) (d : Joint) → j < length js → side_at other (get_or js j d).giver ≡ side_at net (get_or js j d).giver
  giver_same j d lt = side_same bs ds r js (get_or js j d).giver (wired.givers j d lt)

  taker_same : (j : ℕ) (d : Joint) → j < length js → side_at other (get_or js j d).taker ≡ side_at net (get_or js j d).taker
  taker_same j d lt = side_same bs ds r js (get_or js j d).taker (wired.takers j d lt)

  pub closed_on : (n : ℕ) → n ≤ length js → (inside : ℕ → Bool) → IsClosedBelow net n inside → IsClosedBelow other n inside
  closed_on n le inside closed = record {
    along = λ j d lt. let j_in : j < length js = omega arith in ap inside (giver_same j d j_in) ∙ closed.along j d lt ∙ ap inside (sym (taker_same j d j_in));
  }

  closed_back : (n : ℕ) → n ≤ length js → (inside : ℕ → Bool) → IsClosedBelow other n inside → IsClosedBelow net n inside
  closed_back n le inside closed = record {
    along = λ j d lt. let j_in : j < length js = omega arith in ap inside (sym (giver_same j d j_in)) ∙ closed.along j d lt ∙ ap inside (taker_same j d j_in);
  }

  linked_on : (n : ℕ) → n ≤ length js → (s t : ℕ) → IsLinked net n s t → IsLinked other n s t
  linked_on n le s t h inside closed = h inside (closed_back n le inside closed)

  linked_back : (n : ℕ) → n ≤ length js → (s t : ℕ) → IsLinked other n s t → IsLinked net n s t
  linked_back n le s t h inside closed = h inside (closed_on n le inside closed)

  all_joints : length js ≤ length js
  all_joints = omega arith

  sides : length (all_sides ds) ≡ length (all_sides bs)
  sides = count_same bs ds r

  numbers_on : (numbers : List ℕ) (count : ℕ) → AreNumbers (SameKnot net) (side_count net) numbers count → AreNumbers (SameKnot other) (side_count other) numbers count
  numbers_on numbers count are =
      let n = are.one_each in
      record {
        one_each = n ∙ sym sides;
        in_range = λ s lt. are.in_range s (omega (arith, sides));
        same = λ s t s_in t_in.
            let here = are.same s t (omega (arith, sides)) (omega (arith, sides)) in
            (λ e. linked_on (length js) all_joints s t (here.0 e), λ h. here.1 (linked_back (length js) all_joints s t h));
        each = λ k lt. let it = are.each k lt in (it.0, omega (arith, sides, it.1), it.2);
        by_least = λ s k lt below. are.by_least s k (omega (arith, sides)) below;
      }

  knot_on : (inside : ℕ → Bool) → IsKnot net inside → IsKnot other inside
  knot_on inside is = record {
    some = let it = is.some in (it.0, omega (arith, sides, it.1), it.2);
    closed = closed_on (length js) all_joints inside is.closed;
    joined = λ s t s_in t_in. linked_on (length js) all_joints s t (is.joined s t s_in t_in);
  }

  loop_on : (numbers : List ℕ) (k j : ℕ) → IsLoopOf net numbers k j → IsLoopOf other numbers k j
  loop_on numbers k j is =
      let lt = is.in_range in
      record {
        in_range = lt;
        closes = λ d.
            subst (λ (s : ℕ). IsLinked other j s (side_at other (get_or js j d).taker)) (sym (giver_same j d lt))
            (subst (λ (t : ℕ). IsLinked other j (side_at net (get_or js j d).giver) t) (sym (taker_same j d lt))
            (linked_on j (omega (arith, lt)) (side_at net (get_or js j d).giver) (side_at net (get_or js j d).taker) (is.closes d)));
        here = λ d. ap (λ (s : ℕ). get_or numbers s 0) (giver_same j d lt) ∙ is.here d;
      }

  loop_back : (numbers : List ℕ) (k j : ℕ) → IsLoopOf other numbers k j → IsLoopOf net numbers k j
  loop_back numbers k j is =
      let lt = is.in_range in
      record {
        in_range = lt;
        closes = λ d.
            subst (λ (s : ℕ). IsLinked net j s (side_at net (get_or js j d).taker)) (giver_same j d lt)
            (subst (λ (t : ℕ). IsLinked net j (side_at other (get_or js j d).giver) t) (taker_same j d lt)
            (linked_back j (omega (arith, lt)) (side_at other (get_or js j d).giver) (side_at other (get_or js j d).taker) (is.closes d)));
        here = λ d. ap (λ (s : ℕ). get_or numbers s 0) (sym (giver_same j d lt)) ∙ is.here d;
      }

  pub knots_on : (knots : Knotted) → AreKnots net knots → AreKnots other knots
  knots_on knots are = record {
    numbered = numbers_on knots.numbers (knot_count knots) are.numbered;
    are_knots = λ k lt. knot_on (in_knot knots.numbers k) (are.are_knots k lt);
    sides_are = λ k d lt. are.sides_are k d lt ∙ ap (λ (n : ℕ). filter (in_knot knots.numbers k) (range_with_len 0 n)) (sym sides);
    loops_are = λ k d lt.
        let those = are.loops_are k d lt in
        record {
          increasing = those.increasing;
          exact = λ x. (λ h. loop_on knots.numbers k x ((those.exact x).0 h), λ h. (those.exact x).1 (loop_back knots.numbers k x h));
        };
  }

pub knots_stay : KnotsStayWithShape
knots_stay old new wired joints shapes knots are =
    subst (λ (js : List Joint). AreKnots (record { primitives = new.primitives; joints = js }) knots) (sym joints)
    (knots_on old.primitives new.primitives old.joints wired shapes knots are)
