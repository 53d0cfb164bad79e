-- Each assignment by values is one by rows and items.
use Rattle.std.proofs.Common.{◌≡◌, inl, inr, ℕ, ◌<◌, List, Bool, true, length, get_or, Option, None, Some, IsSome, refl, ap, sym, ◌∙◌, subst, arith}
use Rattle.std.specs.Option.{option_and_then}
use Rattle.std.proofs.lemmas.List.{get_or_default}
use Rattle.std.proofs.lemmas.List.FromFn.{get_or-map-range_with_len, length-map-range_with_len}
use Rattle.reo_values.specs.declared.value.Value.{Value}
use Rattle.reo_net_base.specs.declared.mark.Mark.TheVariants.{F}
use Rattle.reo_net_base.specs.declared.joint.End.{End}
use Rattle.reo_net_base.specs.declared.joint.Joint.{Joint}
use Rattle.reo_net_base.specs.Behaviour.{Behaviour}
use Rattle.reo_net_base.specs.Lawful.{GivesAt}
use Rattle.reo_net_base.specs.Marks.{marks_match}
use Rattle.reo_net_base.specs.Net.{Net, behaviour_at, end_of, side_at, row_at, mark_at}
use Rattle.reo_net_base.specs.Sides.{side_count}
use Rattle.reo_net_base.specs.Colouring.{taken_at, given_at, lets_in, JointMatches, ItemFits}
use Rattle.reo_net_base.specs.Wired.{IsWired, IsEnd, IsOrder}
use Rattle.reo_net_laws.specs.Ends.{mark_in, from_in}
use Rattle.reo_net_laws.specs.Parts.{IsClosed, IsAssignment}
use Rattle.reo_net_laws.proofs.Items.{along_order, some_item}
use Rattle.reo_joint_values.proofs.Sides.{row_is, side_in_range}
use Rattle.reo_joint_values.specs.declared.value.JointValue.{JointValue}
use Rattle.reo_joint_values.specs.declared.value.JointValue.TheVariants.{Flow, RG, GR, GG, Jam}
use Rattle.reo_joint_values.specs.Values.{giver_mark, taker_mark, Names, Choice, item_named, items_of, no_joint, joint_of, giver_side, taker_side}
use Rattle.reo_joint_values.specs.Fitting.{given_for, given_in, passes_in, GivesValue, TakesValue, Fits}
use Rattle.reo_joint_values.specs.Chosen.{rows_of}
use Rattle.reo_joint_values.specs.Works.{IsRowAt}
use Rattle.reo_joint_values.specs.Ties.{IsNamed, ChoicesAreAssignments}
use Rattle.reo_joint_values.proofs.Fitting.{items_count, item_chosen, giver_row, decided, given_by_state, given_by_joint}
use Rattle.reo_joint_values.proofs.Fitting.Decided.{by_none, by_joint}
use Rattle.reo_joint_values.proofs.Inside.{at_inside}

-- The words for rows in a list are those for the row of a side.
pub mark_by : (net : Net) (rows : List ℕ) (row : ℕ) (e : End) → row_at net rows e ≡ row → mark_at net rows e ≡ mark_in net row e
unfolding mark_at mark_in
mark_by net rows row e is = ap (λ (r : ℕ). (behaviour_at net.primitives e.primitive).mark ((behaviour_at net.primitives e.primitive).side_of e.end) r e.end) is

pub given_by : (net : Net) (names : Names) (c : Choice) (rows : List ℕ) (row : ℕ) (e : End) → row_at net rows e ≡ row → given_at net rows (items_of net names c) e ≡ given_in net names c row e
unfolding given_at given_in given_for from_in
given_by net names c rows row e is =
    let b : Behaviour = behaviour_at net.primitives e.primitive in
    ap (λ (r : ℕ). b.given (b.side_of e.end) r e.end (option_and_then (λ from. taken_at net.joints (items_of net names c) (end_of e.primitive from)) (b.from (b.side_of e.end) r e.end))) is

pub lets_by : (net : Net) (rows : List ℕ) (row : ℕ) (e : End) (item : Value) → row_at net rows e ≡ row → lets_in net rows e item ≡ passes_in net row e item
unfolding lets_in passes_in
lets_by net rows row e item is = ap (λ (r : ℕ). (behaviour_at net.primitives e.primitive).passes ((behaviour_at net.primitives e.primitive).side_of e.end) r e.end item) is

-- The two marks of a value match.
value_matches : (v : JointValue) → marks_match (giver_mark v) (taker_mark v) ≡ true
value_matches (Flow n) = refl
value_matches RG = refl
value_matches GR = refl
value_matches GG = refl
value_matches Jam = refl

taker_flows : (v : JointValue) → taker_mark v ≡ F → giver_mark v ≡ F
taker_flows (Flow n) h = refl
taker_flows RG h = cc
taker_flows GR h = cc
taker_flows GG h = cc
taker_flows Jam h = cc

item_flows : (names : Names) (j : ℕ) (v : JointValue) (item : Value) → item_named names j v ≡ Some item → giver_mark v ≡ F
item_flows names j (Flow n) item h = refl
item_flows names j RG item h = cc
item_flows names j GR item h = cc
item_flows names j GG item h = cc
item_flows names j Jam item h = cc

-- Items that a row gives.
module _ (net : Net) (wired : IsWired net) (row k : ℕ) (lt : k < length net.joints) (in_table : IsRowAt net row (joint_of net k).giver) (flows : mark_in net row (joint_of net k).giver ≡ F) where
  gives : GivesAt (behaviour_at net.primitives (joint_of net k).giver.primitive) ((behaviour_at net.primitives (joint_of net k).giver.primitive).side_of (joint_of net k).giver.end) row (joint_of net k).giver.end
  unfolding mark_in
  gives =
      let is_end = wired.givers k no_joint lt in
      record {
        of_side = (wired.lawful (joint_of net k).giver.primitive is_end.0).sides_in (joint_of net k).giver.end is_end.1;
        in_table = in_table;
        is_end = (is_end.1, refl);
        gives = wired.gives k no_joint lt;
        flows = flows;
      }

  some_by_state : from_in net row (joint_of net k).giver ≡ None → IsSome (given_for net row (joint_of net k).giver None)
  unfolding from_in given_for
  some_by_state none =
      let e : End = (joint_of net k).giver in
      (wired.lawful e.primitive (wired.givers k no_joint lt).0).given_alone ((behaviour_at net.primitives e.primitive).side_of e.end) row e.end gives none

  some_by_item : (from : ℕ) (item : Value) → from_in net row (joint_of net k).giver ≡ Some from → IsSome (given_for net row (joint_of net k).giver (Some item))
  unfolding from_in given_for
  some_by_item from item some =
      let e : End = (joint_of net k).giver in
      (wired.lawful e.primitive (wired.givers k no_joint lt).0).given_for ((behaviour_at net.primitives e.primitive).side_of e.end) row e.end from item gives some

module _ (net : Net) (wired : IsWired net) (names : Names) (inside : ℕ → Bool) (closed : IsClosed net inside) (rows : ℕ → ℕ) (choice : Choice)
    (fits : (side : ℕ) → inside side ≡ true → Fits net names choice side (rows side)) where
  -- Along an order, each value that flows has the number of an item.
  named : (order : List ℕ) → IsOrder net order → (j : ℕ) → j < length net.joints → inside (giver_side net j) ≡ true → IsNamed names j (choice j)
  named order is_order j lt =
      along_order net order is_order (λ (k : ℕ). inside (giver_side net k) ≡ true → IsNamed names k (choice k)) (λ k k_in before is flows.
      let side : ℕ = giver_side net k in
      let e : End = (joint_of net k).giver in
      let fit = fits side is in
      let g : GivesValue net names choice (rows side) e k (choice k) = fit.gives k k_in refl in
      let mark : mark_in net (rows side) e ≡ F = sym g.mark ∙ flows in
      let row_in = giver_row net wired side (rows side) k k_in refl fit.in_table in
      elim (decided net wired side (rows side) k k_in refl fit.in_table) [
        | by_none never ↦
            let given = given_by_state net wired names choice (rows side) k never mark in
            subst (λ (o : Option Value). IsSome o) (sym given.1 ∙ g.item flows) (some_by_state net wired (rows side) k k_in row_in mark given.0)
        | by_joint i i_in i_at follows i_flows only ↦
            let i_inside = at_inside net inside closed i side (giver_side net i) i_in (inr i_at) (inl refl) is in
            let i_mark : giver_mark (choice i) ≡ F = taker_flows (choice i) ((fit.takes i i_in i_at).mark ∙ i_flows) in
            let taken = some_item (item_named names i (choice i)) (before i no_joint no_joint i_in i_at i_inside i_mark) in
            let given = given_by_joint net wired names choice (rows side) k i i_in follows in
            let some : IsSome (given_for net (rows side) e (item_named names i (choice i))) =
            subst (λ (o : Option Value). IsSome (given_for net (rows side) e o)) (sym taken.1) (some_by_item net wired (rows side) k k_in row_in mark (joint_of net i).taker.end taken.0 follows.from) in
            subst (λ (o : Option Value). IsSome o) (sym given ∙ g.item flows) some
      ])
      j lt

  abbrev list : List ℕ
  list = rows_of net rows

  row_of_end : (e : End) → IsEnd net.primitives e → row_at net list e ≡ rows (side_at net e)
  row_of_end e is =
      row_is net list e
      ∙ get_or-map-range_with_len {X = ℕ} rows 0 (side_count net) (side_at net e) (side_at net e) 0 (side_in_range net wired e is) (omega arith)

  -- At a joint of the set the rows have the marks of its value.
  module _ (j : ℕ) (lt : j < length net.joints) (is : inside (giver_side net j) ≡ true) where
    giver_fit : GivesValue net names choice (rows (giver_side net j)) (joint_of net j).giver j (choice j)
    giver_fit = (fits (giver_side net j) is).gives j lt refl

    taker_fit : TakesValue net names (rows (taker_side net j)) (joint_of net j).taker j (choice j)
    taker_fit = (fits (taker_side net j) (at_inside net inside closed j (giver_side net j) (taker_side net j) lt (inl refl) (inr refl) is)).takes j lt refl

    giver_row_is : row_at net list (joint_of net j).giver ≡ rows (giver_side net j)
    giver_row_is = row_of_end (joint_of net j).giver (wired.givers j no_joint lt)

    taker_row_is : row_at net list (joint_of net j).taker ≡ rows (taker_side net j)
    taker_row_is = row_of_end (joint_of net j).taker (wired.takers j no_joint lt)

    giver_mark_is : mark_at net list (joint_of net j).giver ≡ giver_mark (choice j)
    giver_mark_is = mark_by net list (rows (giver_side net j)) (joint_of net j).giver giver_row_is ∙ sym giver_fit.mark

    taker_mark_is : mark_at net list (joint_of net j).taker ≡ taker_mark (choice j)
    taker_mark_is = mark_by net list (rows (taker_side net j)) (joint_of net j).taker taker_row_is ∙ sym taker_fit.mark

    matches : JointMatches net list (joint_of net j)
    matches = rw (giver_mark_is, taker_mark_is) (value_matches (choice j))

    item_fits : IsNamed names j (choice j) → (o : Option Value) → o ≡ item_named names j (choice j) → ItemFits net list (items_of net names choice) (joint_of net j) o
    item_fits some None o_is = λ flows.
        let none : IsSome {T = Value} None = subst (λ (x : Option Value). IsSome x) (sym o_is) (some (sym giver_mark_is ∙ flows)) in
        cc
    item_fits some (Some item) o_is =
        let flows : giver_mark (choice j) ≡ F = item_flows names j (choice j) item (sym o_is) in
        record {
          flows = giver_mark_is ∙ flows;
          given = given_by net names choice list (rows (giver_side net j)) (joint_of net j).giver giver_row_is ∙ giver_fit.item flows ∙ sym o_is;
          let_in = lets_by net list (rows (taker_side net j)) (joint_of net j).taker item taker_row_is ∙ taker_fit.let_in item (sym o_is);
        }

  pub is_assignment : (order : List ℕ) → IsOrder net order → IsAssignment net inside list (items_of net names choice)
  is_assignment order is_order = record {
    one_row = length-map-range_with_len {X = ℕ} rows 0 (side_count net);
    one_item = items_count net names choice;
    in_tables = λ k d lt is.
        rw (get_or-map-range_with_len {X = ℕ} rows 0 (side_count net) k k 0 lt (omega arith)) ((fits k is).in_table d);
    matched = λ j d lt is.
        let same : get_or net.joints j d ≡ joint_of net j = get_or_default net.joints j d no_joint lt in
        let here : inside (giver_side net j) ≡ true = ap (λ (x : Joint). inside (side_at net x.giver)) (sym same) ∙ is in
        rw same (matches j lt here);
    items_fit = λ j d lt is.
        let same : get_or net.joints j d ≡ joint_of net j = get_or_default net.joints j d no_joint lt in
        let here : inside (giver_side net j) ≡ true = ap (λ (x : Joint). inside (side_at net x.giver)) (sym same) ∙ is in
        rw same (item_fits j lt here (named order is_order j lt here) (get_or (items_of net names choice) j None) (item_chosen net names choice j lt));
  }

pub choices_are_assignments : ChoicesAreAssignments
choices_are_assignments net wired order is_order names inside sets closed rows choice a =
    is_assignment net wired names inside closed rows choice a.fits order is_order
