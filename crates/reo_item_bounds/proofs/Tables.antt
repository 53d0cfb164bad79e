-- Bounds in circuits with the same tables.
use Rattle.std.proofs.Common.{◌≡◌, ℕ, ◌+◌, ◌<◌, ◌≤◌, List, Bool, length, get_or, refl, ap, sym, ◌∙◌, subst, arith}
use Rattle.reo_net_base.specs.declared.joint.End.{End}
use Rattle.reo_net_base.specs.declared.joint.Joint.{Joint}
use Rattle.reo_net_base.specs.Behaviour.{Behaviour, IsEndOf}
use Rattle.reo_net_base.specs.Lawful.{SameShape}
use Rattle.reo_net_base.specs.Net.{Net, behaviour_at, first_side, side_at}
use Rattle.reo_net_base.specs.SameTables.{SameTable}
use Rattle.reo_net_base.specs.Wired.{IsWired, IsEnd}
use Rattle.reo_net_laws.specs.Ends.{mark_in}
use Rattle.reo_net_laws.proofs.Assignments.{first_same}
use Rattle.reo_net_laws.proofs.Sides.{side_at_place}
use Rattle.reo_net_laws.proofs.Isolation.{same_net}
use Rattle.reo_joint_values.specs.Standing.{no_joint, giver_of, taker_of, FlowsAt}
use Rattle.reo_joint_values.specs.Many.{IsJointIn}
use Rattle.reo_weights.specs.Bounds.{sum_below, giver_rows, AreLoopsIn}
use Rattle.reo_net_laws.specs.state_laws.States.{HaveSameTables}
use Rattle.reo_item_bounds.specs.Bounds.{ComesIn, IsBoundAt, HasBounds}
use Rattle.reo_item_bounds.specs.Laws.{BoundsStay}
use Rattle.reo_item_bounds.proofs.Linked.{loop_on, loop_back}

-- Ends of one side have one number.
pub place_same : (net : Net) (e t : End) → t.primitive ≡ e.primitive → (behaviour_at net.primitives e.primitive).side_of t.end ≡ (behaviour_at net.primitives e.primitive).side_of e.end → side_at net t ≡ side_at net e
place_same net e t p s =
    side_at_place net t ∙ (λ i. first_side net.primitives (p i) + (behaviour_at net.primitives (p i)).side_of t.end) ∙ ap (λ (k : ℕ). first_side net.primitives e.primitive + k) s ∙ sym (side_at_place net e)

-- A bound at a joint, where the side that gives there has the same table.
module _ (bs ds : List Behaviour) (js : List Joint) (wired : IsWired (record { primitives = bs; joints = js })) (turn later j : ℕ) (lt : j < length js) where
  abbrev here : Net
  here = record { primitives = bs; joints = js }

  abbrev there : Net
  there = record { primitives = ds; joints = js }

  abbrev e : End
  e = giver_of here j

  abbrev b : Behaviour
  b = behaviour_at bs (giver_of here j).primitive

  abbrev d : Behaviour
  d = behaviour_at ds (giver_of here j).primitive

  module _ (shape : SameShape b d) (table : SameTable turn later b d (b.side_of e.end)) where
    rows_are : d.rows (d.side_of e.end) ≡ b.rows (b.side_of e.end)
    rows_are = ap d.rows (shape.side_of e.end) ∙ table.rows

    -- The marks of an end of the side.
    mark_is : (t : End) → t.primitive ≡ e.primitive → IsEndOf b (b.side_of e.end) t.end → (row : ℕ) → row < b.rows (b.side_of e.end) → mark_in there row t ≡ mark_in here row t
    unfolding mark_in
    mark_is t p is row row_in =
        ap (λ (i : ℕ). (behaviour_at ds i).mark ((behaviour_at ds i).side_of t.end) row t.end) p
        ∙ ap (λ (s : ℕ). d.mark s row t.end) (shape.side_of t.end ∙ is.1)
        ∙ table.mark row t.end row_in is
        ∙ ap (λ (s : ℕ). b.mark s row t.end) (sym is.1)
        ∙ ap (λ (i : ℕ). (behaviour_at bs i).mark ((behaviour_at bs i).side_of t.end) row t.end) (sym p)

    flows_back : (row : ℕ) → FlowsAt there e row → FlowsAt here e row
    flows_back row flows =
        let plain = flows.plain in
        let less : row + 1 < b.rows (b.side_of e.end) = subst (λ (n : ℕ). row + 1 < n) rows_are plain in
        record { plain = less; flows = sym (mark_is e refl ((wired.givers j no_joint lt).1, refl) row (omega (arith, less))) ∙ flows.flows }

    comes_back : (row k : ℕ) → ComesIn there j row k → ComesIn here j row k
    comes_back row k comes =
        let t : End = taker_of here k in
        let p : t.primitive ≡ e.primitive = comes.primitive in
        let s : b.side_of t.end ≡ b.side_of e.end = sym (shape.side_of t.end) ∙ comes.side ∙ shape.side_of e.end in
        let t_in : t.end < b.ends = subst (λ (i : ℕ). t.end < (behaviour_at bs i).ends) p (wired.takers k no_joint comes.in_range).1 in
        let flows : FlowsAt here e row = flows_back row comes.flows in
        let plain = flows.plain in
        record {
          flows = flows;
          in_range = comes.in_range;
          primitive = p;
          side = s;
          comes = sym (mark_is t p (t_in, s) row (omega (arith, plain))) ∙ comes.comes;
        }

    pub bound_there : (bound : ℕ → ℕ) → IsBoundAt here bound j → IsBoundAt there bound j
    bound_there bound at =
        let rows_same : giver_rows there j ≡ giver_rows here j = rows_are in
        record {
          share = at.share;
          together = subst (λ (n : ℕ). sum_below n at.share ≤ bound j) (sym rows_same) at.together;
          one = λ row flows. at.one row (flows_back row flows);
          passed = λ row k comes. at.passed row k (comes_back row k comes);
          few = at.few;
        }

module _ (turn later : ℕ) (bs ds : List Behaviour) (js : List Joint) (wired : IsWired (record { primitives = bs; joints = js })) (inside : ℕ → Bool)
    (same : HaveSameTables turn later (record { primitives = bs; joints = js }) (record { primitives = ds; joints = js }) inside) where
  abbrev net : Net
  net = record { primitives = bs; joints = js }

  abbrev other : Net
  other = record { primitives = ds; joints = js }

  at_other : (e : End) → IsEnd bs e → side_at other e ≡ side_at net e
  at_other e e_in =
      let first : first_side ds e.primitive ≡ first_side bs e.primitive = first_same bs ds same.count same.shape e.primitive in
      side_at_place other e ∙ (λ i. first i + (same.shape e.primitive e_in.0).side_of e.end i) ∙ sym (side_at_place net e)

  giver_end : (j : ℕ) → j < length js → IsEnd bs (giver_of net j)
  giver_end j lt = wired.givers j no_joint lt

  joint_back : (j : ℕ) → IsJointIn other inside j → IsJointIn net inside j
  joint_back j is = (is.0, ap inside (sym (at_other (giver_of net j) (giver_end j is.0))) ∙ is.1)

  joint_on : (j : ℕ) → IsJointIn net inside j → IsJointIn other inside j
  joint_on j is = (is.0, ap inside (at_other (giver_of net j) (giver_end j is.0)) ∙ is.1)

  bound_on : (bound : ℕ → ℕ) (j : ℕ) → IsJointIn net inside j → IsBoundAt net bound j → IsBoundAt other bound j
  bound_on bound j is =
      let e : End = giver_of net j in
      let e_in : IsEnd bs e = giver_end j is.0 in
      bound_there bs ds js wired turn later j is.0 (same.shape e.primitive e_in.0)
      (same.sides e.primitive ((behaviour_at bs e.primitive).side_of e.end) e_in.0 ((wired.lawful e.primitive e_in.0).sides_in e.end e_in.1) (ap inside (sym (side_at_place net e)) ∙ is.1)) bound

  loops_there : (loops : List ℕ) → AreLoopsIn net inside loops → AreLoopsIn other inside loops
  loops_there loops are =
      let givers : (j : ℕ) (d : Joint) → j < length js → side_at other (get_or js j d).giver ≡ side_at net (get_or js j d).giver = λ j d lt. at_other (get_or js j d).giver (wired.givers j d lt) in
      let takers : (j : ℕ) (d : Joint) → j < length js → side_at other (get_or js j d).taker ≡ side_at net (get_or js j d).taker = λ j d lt. at_other (get_or js j d).taker (wired.takers j d lt) in
      record {
        increasing = are.increasing;
        exact = λ j. (
          λ h. let it = (are.exact j).0 h in (joint_on j it.0, loop_on net other refl givers takers j it.0.0 it.1),
          λ it. (are.exact j).1 (joint_back j it.0, loop_back net other refl givers takers j it.0.0 it.1),
        );
      }

  bounds_there : (choices : ℕ) → HasBounds net inside choices → HasBounds other inside choices
  bounds_there choices has = record {
    bound = has.bound;
    each = λ j is. bound_on has.bound j (joint_back j is) (has.each j (joint_back j is));
    loops = has.loops;
    are_loops = loops_there has.loops has.are_loops;
    product = has.product;
  }

pub stay : BoundsStay
stay turn later net other wired inside tables choices has =
    let same = same_net net other tables.joints in
    subst (λ (n : Net). HasBounds n inside choices) same
    (bounds_there turn later net.primitives other.primitives net.joints wired inside (subst (λ (n : Net). HaveSameTables turn later net n inside) (sym same) tables) choices has)
