-- What is remembered is right in each state that has its key.
use Rattle.std.proofs.Common.{◌≡◌, ◌∙◌, inl, inr, ℕ, zero, suc, ◌+◌, ◌-◌, ◌%◌, ◌<◌, ◌≤◌, Bool, true, false, List, [], ◌∷◌, ◌++◌, length, get_or, get_or-set_same, get_or-set_other, set, refl, ap, sym, subst, arith}
use Rattle.std.proofs.lemmas.Bool.{cases_eq}
use Rattle.std.specs.Prelude.{Contains, Option, Some, None, IsSome, Result, Ok, Err, OnOk, OnErr}
use Rattle.std.proofs.lemmas.List.{get_or_default, length-set}
use Rattle.std.proofs.lemmas.List.Elements.{Contains-get_or}
use Rattle.reo_values.specs.declared.value.Value.{Value}
use Rattle.reo_net_base.specs.declared.form.Form.{Form}
use Rattle.reo_net_base.specs.declared.form.Form.TheVariants.{Single, Double, Merging, Replicating}
use Rattle.reo_net_base.specs.declared.joint.End.{End}
use Rattle.reo_net_base.specs.declared.joint.Joint.{Joint}
use Rattle.reo_net_base.specs.Behaviour.{Behaviour}
use Rattle.reo_net_base.specs.Lawful.{GivesAt}
use Rattle.reo_net_base.specs.Net.{Net, Side, all_sides, no_side, behaviour_at, first_side, mark_at, row_at, side_at, side_of_end}
use Rattle.reo_net_base.specs.Forms.{number_in, period_in}
use Rattle.reo_net_base.specs.SameTables.{SameTable, HaveOneRest}
use Rattle.reo_net_base.specs.Shapes.{SameShapes, TreatAlike}
use Rattle.reo_net_base.specs.Sides.{side_count}
use Rattle.reo_net_base.specs.Wired.{IsWired, IsEnd, IsOrder}
use Rattle.reo_net_base.proofs.Numbers.{few_places, one_table}
use Rattle.reo_net_circuit.proofs.ReshapeLemmas.{first_same, side_same, order_same}
use Rattle.reo_net_laws.specs.Alike.{AreAlike}
use Rattle.reo_net_laws.specs.Parts.{IsClosed, IsClosedBelow}
use Rattle.reo_net_laws.specs.Sublists.{sides_in, part_rows}
use Rattle.reo_net_laws.proofs.Sides.{row_in_table, row_is, side_at_place, side_in_range, side_is}
use Rattle.reo_net_laws.proofs.Shapes.{shapes_twice, shapes_back}
use Rattle.reo_net_laws.specs.Knots.{Knotted, AreKnots, in_knot, knot_count}
use Rattle.reo_weights.specs.still.Joining.{HasFirst}
use Rattle.reo_planning.specs.Planned.{IsPartPlanned}
use Rattle.reo_planning.specs.Written.{AreWritten}
use Rattle.reo_flows.specs.flowing.Flowing.{AreFlowingOf}
use Rattle.reo_flows.proofs.flowing.Staying.{flowing_stay}
use Rattle.reo_planning.proofs.Flowing.{mark_same}
use Rattle.reo_planning.proofs.KnotSets.{below}
use Rattle.reo_planning.proofs.Searched.{among, among_contains, contains_among, among_sides, sides_below, rows_same}
use Rattle.reo_weights.specs.Over.{IsWithin}
use Rattle.reo_net_laws.specs.state_laws.States.{HaveSameTables, IsOpen, AreFirstRows, LetsIn}
use Rattle.reo_net_laws.proofs.state_laws.Same.{same_rows}
use Rattle.reo_item_bounds.specs.Bounds.{HasBounds}
use Rattle.reo_item_bounds.proofs.Linked.{closed_on}
use Rattle.reo_item_bounds.proofs.Tables.{stay}
use Rattle.reo_item_bounds.proofs.Within.{within}
use Rattle.reo_part_plans.specs.declared.entry.RememberedRows.{RememberedRows}
use Rattle.reo_part_plans.specs.declared.looks.Look.{Look}
use Rattle.reo_part_plans.specs.declared.plans.RememberedPart.{RememberedPart}
use Rattle.reo_part_plans.specs.Alike.{HaveSameClasses}
use Rattle.reo_part_plans.specs.Given.{GivesOnly, LetAllIn, AreItems, Decide, AreGiven}
use Rattle.reo_part_plans.specs.Laws.{PlansStay}
use Rattle.reo_part_plans.specs.Looks.{IsLookAt, IsKey}
use Rattle.reo_part_plans.specs.Remembered.{IsRemembered, AreRemembered, StayOrGo, AreAllRemembered, IsWrittenDown, IsRecalled}
use Rattle.reo_part_plans.proofs.FirstRows.{alike_same_rows}

alike_twice : (bs ds es : List Behaviour) → TreatAlike bs ds → TreatAlike ds es → TreatAlike bs es
alike_twice bs ds es first second i = record {
  passes = λ side row end item. (second i).passes side row end item ∙ (first i).passes side row end item;
  from = λ side row end. (second i).from side row end ∙ (first i).from side row end;
  given = λ side row end from taken is. (second i).given side row end from taken ((first i).from side row end ∙ is) ∙ (first i).given side row end from taken is;
}

remembered_stays : (net other : Net) → other.joints ≡ net.joints → SameShapes net.primitives other.primitives → TreatAlike net.primitives other.primitives → (inside : ℕ → Bool) (sides : List ℕ) (entry : RememberedRows)
    → IsRemembered net inside sides entry → IsRemembered other inside sides entry
remembered_stays net other joints shapes alike inside sides entry is = record {
  before = is.before;
  turn = is.turn;
  wired = is.wired;
  joints = joints ∙ is.joints;
  shapes = shapes_twice is.before.primitives net.primitives other.primitives is.shapes shapes;
  alike = alike_twice is.before.primitives net.primitives other.primitives is.alike alike;
  key = is.key;
  items = is.items;
  from = is.from;
  first = is.first;
  rows = is.rows;
  flowing = is.flowing;
  bounds = is.bounds;
}

-- Forms of one number have one period.
one_period : (form other : Form) → number_in form ≡ number_in other → period_in form ≡ period_in other
one_period (Single t) (Single s) same = refl
one_period (Single t) (Double s) same = refl
one_period (Single t) (Merging c) same = let few = few_places t in absurd (omega (arith, same, few))
one_period (Single t) (Replicating c) same = refl
one_period (Double t) (Single s) same = refl
one_period (Double t) (Double s) same = refl
one_period (Double t) (Merging c) same = let few = few_places t in absurd (omega (arith, same, few))
one_period (Double t) (Replicating c) same = refl
one_period (Merging b) (Single s) same = let few = few_places s in absurd (omega (arith, same, few))
one_period (Merging b) (Double s) same = let few = few_places s in absurd (omega (arith, same, few))
one_period (Merging b) (Merging c) same = omega (arith, same)
one_period (Merging b) (Replicating c) same = absurd (omega (arith, same))
one_period (Replicating b) (Single s) same = refl
one_period (Replicating b) (Double s) same = refl
one_period (Replicating b) (Merging c) same = absurd (omega (arith, same))
one_period (Replicating b) (Replicating c) same = refl

abbrev no_look : Look
no_look = record { number = 0; rest = 0 }

pub plans_stay : PlansStay
plans_stay net other joints shapes alike knots parts are = record {
  one_each = are.one_each;
  right = λ k d lt m e m_in. remembered_stays net other joints shapes alike (in_knot knots.numbers k) (get_or knots.sides k []) (get_or (get_or parts k d).entries m e) (are.right k d lt m e m_in);
}

-- What a key and the items besides tell of the sides of a set.
module _ (inside : ℕ → Bool) (sides : List ℕ) (all : (s : ℕ) → inside s ≡ true → Contains sides s) (key : List Look) where
  side_here : (net : Net) (i side m : ℕ) → i < length net.primitives → side < (behaviour_at net.primitives i).sides → get_or sides m 0 ≡ first_side net.primitives i + side
      → get_or (all_sides net.primitives) (get_or sides m 0) no_side ≡ record { of = behaviour_at net.primitives i; number = side }
  side_here net i side m i_in side_in here = ap (λ (k : ℕ). get_or (all_sides net.primitives) k no_side) here ∙ side_is net.primitives i side no_side i_in side_in

  look_at : (net : Net) (turn : ℕ) → IsKey net sides turn key → (i side m : ℕ) → i < length net.primitives → side < (behaviour_at net.primitives i).sides
      → m < length sides → get_or sides m 0 ≡ first_side net.primitives i + side → IsLookAt (behaviour_at net.primitives i) side turn (get_or key m no_look)
  look_at net turn is i side m i_in side_in m_in here =
      subst (λ (x : Side). IsLookAt x.of x.number turn (get_or key m no_look)) (side_here net i side m i_in side_in here) (is.each m no_look no_side m_in)

  place_is : (s : ℕ) (h : inside s ≡ true) → get_or sides (all s h).0 0 ≡ s
  place_is s h = let at = all s h in get_or_default sides at.0 0 s at.1 ∙ at.2

  -- A set of which each side lets each item in.
  opened : (net : Net) → LetAllIn net sides → IsOpen net inside
  opened net lets i side row end item i_in side_in h row_in is_end takes =
      let s : ℕ = first_side net.primitives i + side in
      subst (λ (x : Side). LetsIn x.of x.number) (side_here net i side (all s h).0 i_in side_in (place_is s h)) (lets (all s h).0 no_side (all s h).1) row end item row_in is_end takes

  -- Circuits of one shape.
  module _ (net other : Net) (shapes : SameShapes net.primitives other.primitives) where
    first : (i : ℕ) → first_side other.primitives i ≡ first_side net.primitives i
    first = first_same net.primitives other.primitives shapes

    place_there : (i side : ℕ) (h : inside (first_side net.primitives i + side) ≡ true) → get_or sides (all (first_side net.primitives i + side) h).0 0 ≡ first_side other.primitives i + side
    place_there i side h = place_is (first_side net.primitives i + side) h ∙ ap (λ (f : ℕ). f + side) (sym (first i))

    -- With one key in the rounds of two numbers.
    module _ (turn later : ℕ) (here : IsKey net sides turn key) (there : IsKey other sides later key) where
      -- A side of the set has the same table in all rounds in which its classes are the same.
      module _ (i side : ℕ) (i_in : i < length net.primitives) (side_in : side < (behaviour_at net.primitives i).sides) (h : inside (first_side net.primitives i + side) ≡ true) where
        side_there : side < (behaviour_at other.primitives i).sides
        side_there = subst (λ (n : ℕ). side < n) (sym (shapes.same i i_in).sides) side_in

        a : IsLookAt (behaviour_at net.primitives i) side turn (get_or key (all (first_side net.primitives i + side) h).0 no_look)
        a = let s : ℕ = first_side net.primitives i + side in look_at net turn here i side (all s h).0 i_in side_in (all s h).1 (place_is s h)

        b : IsLookAt (behaviour_at other.primitives i) side later (get_or key (all (first_side net.primitives i + side) h).0 no_look)
        b = let s : ℕ = first_side net.primitives i + side in look_at other later there i side (all s h).0 (omega (arith, shapes.count)) side_there (all s h).1 (place_there i side h)

        number : number_in a.form ≡ number_in b.form
        number = sym a.number ∙ b.number

        rest : HaveOneRest a.form turn later
        rest = sym a.rest ∙ b.rest ∙ ap (λ (n : ℕ). (later - 1) % n) (sym (one_period a.form b.form number))

        table : (turn later : ℕ) → HaveOneRest a.form turn later → SameTable turn later (behaviour_at net.primitives i) (behaviour_at other.primitives i) side
        table turn later rest = one_table a.form b.form number turn later rest (behaviour_at net.primitives i) (behaviour_at other.primitives i) side a.has b.has

      -- Sides with one key have the same tables.
      key_tables : other.joints ≡ net.joints → HaveSameTables turn later net other inside
      key_tables joints = record {
        joints = joints;
        count = shapes.count;
        shape = shapes.same;
        sides = λ i side i_in side_in h. table i side i_in side_in h turn later (rest i side i_in side_in h);
      }

      -- And the same classes in both rounds.
      key_classes : HaveSameClasses net inside turn later
      key_classes i side row i_in side_in h row_in =
          sym ((table i side i_in side_in h later later refl).class row row_in) ∙ (table i side i_in side_in h turn later (rest i side i_in side_in h)).class row row_in

      module _ (alike : TreatAlike net.primitives other.primitives) where
        -- A set that lets each item in does so in the other circuit.
        open_there : IsOpen net inside → IsOpen other inside
        open_there lets i side row end item i_in side_in h row_in is_end takes =
            let i_here : i < length net.primitives = omega (arith, shapes.count) in
            let shape = shapes.same i i_here in
            let side_here : side < (behaviour_at net.primitives i).sides = rw shape.sides at side_in in
            let h_here : inside (first_side net.primitives i + side) ≡ true = ap (λ (f : ℕ). inside (f + side)) (sym (first i)) ∙ h in
            let row_here : row < (behaviour_at net.primitives i).rows side = rw ((table i side i_here side_here h_here turn later (rest i side i_here side_here h_here)).rows) at row_in in
            (alike i).passes side row end item
            ∙ lets i side row end item i_here side_here h_here row_here (rw shape.ends at is_end.0, sym (shape.side_of end) ∙ is_end.1) (sym (shape.takes_in end) ∙ takes)

        -- The same is given at a side, where the state of the one gives what is noted, and that of the other gives it too.
        module _ (wired : IsWired net) (items : List (Option Value)) (are : AreItems net sides items) (given : AreGiven other sides items)
            (i side : ℕ) (i_in : i < length net.primitives) (side_in : side < (behaviour_at net.primitives i).sides) (h : inside (first_side net.primitives i + side) ≡ true) where
          abbrev b_here : Behaviour
          b_here = behaviour_at net.primitives i

          abbrev b_there : Behaviour
          b_there = behaviour_at other.primitives i

          abbrev m : ℕ
          m = (all (first_side net.primitives i + side) h).0

          m_in : m < length sides
          m_in = (all (first_side net.primitives i + side) h).1

          noted : GivesOnly b_here side (get_or items m None)
          noted = subst (λ (x : Side). GivesOnly x.of x.number (get_or items m None)) (side_here net i side m i_in side_in (place_is (first_side net.primitives i + side) h)) (are.each m None no_side m_in)

          noted_there : (item : Value) → get_or items m None ≡ Some item → GivesOnly b_there side (Some item)
          noted_there item is =
              subst (λ (x : Side). GivesOnly x.of x.number (Some item)) (side_here other i side m (omega (arith, shapes.count)) (side_there i side i_in side_in h) (place_there i side h))
              (given m item no_side (omega (arith, are.one_each, m_in)) is)

          gives_there : (row end : ℕ) → GivesAt b_here side row end → GivesAt b_there side row end
          gives_there row end gives =
              let t = table i side i_in side_in h turn later (rest i side i_in side_in h) in
              let shape = shapes.same i i_in in
              record {
                of_side = side_there i side i_in side_in h;
                in_table = rw t.rows gives.in_table;
                is_end = (rw shape.ends gives.is_end.0, shape.side_of end ∙ gives.is_end.1);
                gives = shape.takes_in end ∙ gives.gives;
                flows = t.mark row end gives.in_table gives.is_end ∙ gives.flows;
              }

          alone : (row end : ℕ) (taken : Option Value) → GivesAt b_here side row end → b_here.from side row end ≡ None → b_there.given side row end taken ≡ b_here.given side row end taken
          alone row end taken gives none =
              elim (get_or items m None) as (λ o. get_or items m None ≡ o → b_there.given side row end taken ≡ b_here.given side row end taken) [
                | Some item ↦ λ is. noted_there item is row end taken (gives_there row end gives) ((alike i).from side row end ∙ none) ∙ sym (noted row end taken gives none ∙ is)
                | None ↦ λ is. let wrong : false ≡ true = subst IsSome (noted row end None gives none ∙ is) ((wired.lawful i i_in).given_alone side row end gives none) in cc
              ] refl

          same_given : (row end : ℕ) (taken : Option Value) → GivesAt b_here side row end → b_there.given side row end taken ≡ b_here.given side row end taken
          same_given row end taken gives =
              elim (b_here.from side row end) as (λ o. b_here.from side row end ≡ o → b_there.given side row end taken ≡ b_here.given side row end taken) [
                | Some from ↦ λ is. (alike i).given side row end from taken is
                | None ↦ λ none. alone row end taken gives none
              ] refl

        -- Sides with one key and the same items are alike.
        key_alike : other.joints ≡ net.joints → IsWired net → (items : List (Option Value)) → AreItems net sides items → AreGiven other sides items → AreAlike net other inside
        key_alike joints wired items are given = record {
          joints = joints;
          count = shapes.count;
          shape = shapes.same;
          sides = λ i side i_in side_in h.
              let t = table i side i_in side_in h turn later (rest i side i_in side_in h) in
              record {
                rows = t.rows;
                mark = t.mark;
                class = λ row any row_in. (table i side i_in side_in h any any refl).class row row_in;
                from = λ row end gives. (alike i).from side row end;
                given = same_given wired items are given i side i_in side_in h;
                passes = λ row end item row_in is_end takes. (alike i).passes side row end item;
              };
        }

-- What is remembered by the key that a part has now, and the items that its state gives.
module _ (net : Net) (wired : IsWired net) (order : List ℕ) (is_order : IsOrder net order) (inside : ℕ → Bool) (closed : IsClosed net inside)
    (sides : List ℕ) (all : (s : ℕ) → inside s ≡ true → Contains sides s) (entry : RememberedRows) (is : IsRemembered net inside sides entry) (turn : ℕ) (key : IsKey net sides turn entry.key) (given : AreGiven net sides entry.items) where
  back : SameShapes net.primitives is.before.primitives
  back = shapes_back is.before.primitives net.primitives is.shapes

  tables : HaveSameTables is.turn turn is.before net inside
  tables = key_tables inside sides all entry.key is.before net is.shapes is.turn turn is.key key is.joints

  same_net : record { primitives = is.before.primitives; joints = net.joints } ≡ is.before
  same_net i = record { primitives = is.before.primitives; joints = is.joints i }

  order_before : IsOrder is.before order
  order_before = subst (λ (n : Net). IsOrder n order) same_net (order_same net.primitives is.before.primitives back net.joints wired order is_order)

  closed_before : IsClosed is.before inside
  closed_before =
      let at : (e : End) → IsEnd net.primitives e → side_at is.before e ≡ side_at net e = λ e e_in.
      ap (λ (n : Net). side_at n e) (sym same_net) ∙ side_same net.primitives is.before.primitives back net.joints e e_in in
      subst (λ (js : List Joint). IsClosedBelow is.before (length js) inside) is.joints
      (closed_on net is.before (sym is.joints) (λ j d lt. at (get_or net.joints j d).giver (wired.givers j d lt)) (λ j d lt. at (get_or net.joints j d).taker (wired.takers j d lt)) (length net.joints) (omega arith) inside closed)

  -- The part is within each budget that allows so many choices.
  pub recalled_within : (budget : ℕ) → entry.choices ≤ budget → IsWithin budget net inside
  recalled_within budget few = within net wired order is_order inside closed entry.choices (stay is.turn turn is.before net is.wired inside tables entry.choices is.bounds) budget few

  -- Its rows are first where each row lets each item in.
  open_first : LetAllIn is.before sides → AreFirstRows net inside turn is.from
  open_first lets =
      let before : IsOpen is.before inside = opened inside sides all entry.key is.before lets in
      same_rows is.turn turn is.before net is.wired wired order order_before is_order inside closed_before tables
      before (open_there inside sides all entry.key is.before net is.shapes is.turn turn is.key key is.alike before) is.from is.first

  -- And where the state gives the items that decided.
  given_first : AreItems is.before sides entry.items → AreFirstRows net inside turn is.from
  given_first are =
      alike_same_rows is.turn turn is.before net is.wired wired inside closed_before
      (key_alike inside sides all entry.key is.before net is.shapes is.turn turn is.key key is.alike is.joints is.wired entry.items are given)
      (key_classes inside sides all entry.key is.before net is.shapes is.turn turn is.key key) is.from is.first

  -- So its rows are first.
  pub recalled_first : AreFirstRows net inside turn is.from
  recalled_first = elim is.items [ inl lets ↦ open_first lets | inr are ↦ given_first are ]

  module _ (rows : List ℕ) (same : (s : ℕ) → s < side_count net → inside s ≡ true → get_or rows s 0 ≡ get_or is.from s 0) where
    at_before : (e : End) → IsEnd is.before.primitives e → side_at net e ≡ side_at is.before e
    at_before e e_in = ap (λ (n : Net). side_at n e) (λ i. record { primitives = net.primitives; joints = is.joints i }) ∙ side_same is.before.primitives net.primitives is.shapes is.before.joints e e_in

    same_row : (e : End) → IsEnd is.before.primitives e → inside (side_at is.before e) ≡ true → row_at net rows e ≡ row_at is.before is.from e
    same_row e e_in h =
        let at = at_before e e_in in
        let here : IsEnd net.primitives e = (omega (arith, is.shapes.count, e_in.0), rw ((is.shapes.same e.primitive e_in.0).ends) e_in.1) in
        row_is net rows e ∙ same (side_at net e) (side_in_range net wired e here) (ap inside at ∙ h) ∙ ap (λ (s : ℕ). get_or is.from s 0) at ∙ sym (row_is is.before is.from e)

    -- The marks are those that were.
    marks_there : (e : End) → IsEnd is.before.primitives e → inside (side_at is.before e) ≡ true → mark_at net rows e ≡ mark_at is.before is.from e
    unfolding mark_at
    marks_there e e_in h =
        let b : Behaviour = behaviour_at is.before.primitives e.primitive in
        let side : ℕ = b.side_of e.end in
        let side_in = (is.wired.lawful e.primitive e_in.0).sides_in e.end e_in.1 in
        let table = tables.sides e.primitive side e_in.0 side_in (ap inside (sym (side_at_place is.before e)) ∙ h) in
        let in_table = row_in_table is.before is.wired e e_in is.from (side_of_end is.before e) (is.first.first.assignment.in_tables (side_at is.before e) (side_of_end is.before e) (side_in_range is.before is.wired e e_in) h) in
        (λ i. (behaviour_at net.primitives e.primitive).mark ((is.shapes.same e.primitive e_in.0).side_of e.end i) (same_row e e_in h i) e.end) ∙ table.mark (row_at is.before is.from e) e.end in_table (e_in.1, refl)

    -- And just its joints flow.
    pub recalled_flowing : AreFlowingOf net inside rows entry.flowing
    recalled_flowing = flowing_stay is.before net is.wired is.joints is.shapes inside is.from rows marks_there entry.flowing is.flowing

abbrev no_entry : RememberedRows
no_entry = record { key = []; items = []; rows = []; flowing = []; choices = 0 }

pub same_shapes : (bs : List Behaviour) → SameShapes bs bs
same_shapes bs = record { count = refl; same = λ i lt. record { ends = refl; sides = refl; side_of = λ _. refl; takes_in = λ _. refl; leads = λ _. refl } }

-- One entry more that is right.
one_more : (net : Net) (inside : ℕ → Bool) (sides : List ℕ) (entries : List RememberedRows) (entry : RememberedRows) → AreRemembered net inside sides entries → IsRemembered net inside sides entry
    → AreRemembered net inside sides (entries ++ entry ∷ [])
one_more net inside sides [] entry all is zero d lt = is
one_more net inside sides [] entry all is (suc m) d lt = absurd (omega arith)
one_more net inside sides (e ∷ es) entry all is zero d lt = all zero d (omega arith)
one_more net inside sides (e ∷ es) entry all is (suc m) d lt = one_more net inside sides es entry (λ n x n_in. all (suc n) x (omega arith)) is m d (omega arith)

-- Entries that are right are right where they stay, or all of them go.
stay_or_go : (net : Net) (inside : ℕ → Bool) (sides : List ℕ) (old new : List RememberedRows) → AreRemembered net inside sides old → StayOrGo old new → AreRemembered net inside sides new
stay_or_go net inside sides old new all (inl same) = subst (AreRemembered net inside sides) (sym same) all
stay_or_go net inside sides old new all (inr none) = subst (AreRemembered net inside sides) (sym none) (λ m d lt. absurd (omega (arith, lt)))

-- What follows from both outcomes holds.
pub either_way : {X E A B G : Type 0} (r : Result X E) → OnOk r A → OnErr r B → (A → G) → (B → G) → G
either_way (Ok x) a b f h = f a
either_way (Err e) a b f h = h b

-- The part of a number, with the list of its sides.
module _ (net : Net) (wired : IsWired net) (knots : Knotted) (are : AreKnots net knots) (k : ℕ) (lt : k < knot_count knots) (sides : List ℕ) (is : sides ≡ get_or knots.sides k []) where
  real : (s : ℕ) → in_knot knots.numbers k s ≡ true → s < side_count net
  real = below net knots.numbers (knot_count knots) are.numbered k

  listed : sides ≡ sides_in net (in_knot knots.numbers k)
  listed = is ∙ are.sides_are k [] lt

  pub part_below : (m : ℕ) → m < length sides → get_or sides m 0 < side_count net
  part_below = subst (λ (xs : List ℕ). (m : ℕ) → m < length xs → get_or xs m 0 < side_count net) (sym listed) (sides_below net (in_knot knots.numbers k) real)

  in_part : (s : ℕ) → among sides s ≡ in_knot knots.numbers k s
  in_part s = ap (λ (xs : List ℕ). among xs s) listed ∙ among_sides net (in_knot knots.numbers k) real s

  pub part_all : (s : ℕ) → in_knot knots.numbers k s ≡ true → Contains sides s
  part_all s h = among_contains sides s (in_part s ∙ h)

  right_here : (parts : List RememberedPart) → AreAllRemembered net knots parts → (p : RememberedPart) → p ≡ get_or parts k p → AreRemembered net (in_knot knots.numbers k) sides p.entries
  right_here parts plans p here =
      subst (λ (xs : List ℕ). AreRemembered net (in_knot knots.numbers k) xs p.entries) (sym is)
      (subst (λ (x : RememberedPart). AreRemembered net (in_knot knots.numbers k) (get_or knots.sides k []) x.entries) (sym here) (plans.right k p lt))

  -- The rows of an entry with the key of the part are those of its first assignment.
  pub recalled : (order : List ℕ) → IsOrder net order → (budget turn : ℕ) (parts : List RememberedPart) → AreAllRemembered net knots parts → (p : RememberedPart) → p ≡ get_or parts k p
      → (old new flowing : List ℕ) → length old ≡ side_count net → IsRecalled net sides turn budget p.entries old new flowing
      → IsPartPlanned budget net knots turn k old new × AreFlowingOf net (in_knot knots.numbers k) new flowing
  recalled order is_order budget turn parts plans p here old new flowing one_row found =
      let inside : ℕ → Bool = in_knot knots.numbers k in
      let entry : RememberedRows = get_or p.entries found.place no_entry in
      let down : IsWrittenDown entry sides old new flowing = found.written no_entry in
      let remembered : IsRemembered net inside sides entry = right_here parts plans p here found.place no_entry found.found_at.0 in
      let closed : IsClosed net inside = (are.are_knots k lt).closed in
      let now : IsKey net sides turn entry.key × AreGiven net sides entry.items = found.found_at.1 no_entry in
      let first = recalled_first net wired order is_order inside closed sides part_all entry remembered turn now.0 now.1 in
      let w : AreWritten sides remembered.from old new = down.written remembered.from remembered.rows in
      let same : (s : ℕ) → s < side_count net → inside s ≡ true → get_or new s 0 ≡ get_or remembered.from s 0 = λ s s_in h. w.here s (omega (arith, one_row, s_in)) (in_part s ∙ h) in
      let flow = recalled_flowing net wired order is_order inside closed sides part_all entry remembered turn now.0 now.1 new same in (
        record {
          one_each = w.one_each;
          within = recalled_within net wired order is_order inside closed sides part_all entry remembered turn now.0 now.1 budget (found.few no_entry);
          first = record { others = remembered.from; items = first.items; first = first.first; same = same };
          others = λ s h. w.others s (in_part s ∙ h);
        },
        subst (AreFlowingOf net inside new) (sym down.flowing_is) flow,
      )

  -- The rows of the first assignment are right for the key that the part has now.
  new_entry : (turn : ℕ) (key : List Look) → IsKey net sides turn key → (items : List (Option Value)) → Decide net sides items → (rows those : List ℕ) → HasFirst net knots.numbers turn rows k → those ≡ part_rows sides rows
      → (choices : ℕ) → HasBounds net (in_knot knots.numbers k) choices → (flowing : List ℕ) → AreFlowingOf net (in_knot knots.numbers k) rows flowing → IsRemembered net (in_knot knots.numbers k) sides (record { key = key; items = items; rows = those; flowing = flowing; choices = choices })
  new_entry turn key is_key items decide rows those first told choices has flowing of = record {
    before = net;
    turn = turn;
    wired = wired;
    joints = refl;
    shapes = same_shapes net.primitives;
    alike = λ i. record { passes = λ side row end item. refl; from = λ side row end. refl; given = λ side row end from taken is. refl };
    key = is_key;
    items = decide;
    from = first.others;
    first = record { items = first.items; first = first.first };
    rows = told ∙ rows_same sides rows first.others (λ m m_in.
        first.same (get_or sides m 0) (part_below m m_in) (sym (in_part (get_or sides m 0)) ∙ contains_among sides (get_or sides m 0) (Contains-get_or sides m 0 m_in)));
    flowing = flowing_stay net net wired refl (same_shapes net.primitives) (in_knot knots.numbers k) rows first.others
        (mark_same net wired (in_knot knots.numbers k) rows first.others (λ s s_in h. sym (first.same s s_in h))) flowing of;
    bounds = has;
  }

  -- What is remembered of one part is exchanged for what is right.
  exchanged : (parts : List RememberedPart) → AreAllRemembered net knots parts → (new : RememberedPart) → AreRemembered net (in_knot knots.numbers k) sides new.entries → AreAllRemembered net knots (set parts k new)
  exchanged parts plans new right =
      let inside : ℕ → Bool = in_knot knots.numbers k in
      let here : AreRemembered net inside (get_or knots.sides k []) new.entries = subst (λ (xs : List ℕ). AreRemembered net inside xs new.entries) is right in
      record {
        one_each = length-set parts k new ∙ plans.one_each;
        right = λ n d n_in. elim (cases_eq n k) [
          | inl e ↦ subst (λ (n : ℕ). AreRemembered net (in_knot knots.numbers n) (get_or knots.sides n []) (get_or (set parts k new) n d).entries) (sym e)
              (subst (λ (x : RememberedPart). AreRemembered net inside (get_or knots.sides k []) x.entries) (sym (get_or-set_same parts k new d (omega (arith, lt, plans.one_each)))) here)
          | inr ne ↦ subst (λ (x : RememberedPart). AreRemembered net (in_knot knots.numbers n) (get_or knots.sides n []) x.entries) (sym (get_or-set_other parts k n new d ne)) (plans.right n d n_in)
        ];
      }

  -- What is remembered of the part stays, or is forgotten.
  pub kept_or_gone : (parts : List RememberedPart) → AreAllRemembered net knots parts → (p new : RememberedPart) → p ≡ get_or parts k p → StayOrGo p.entries new.entries → AreAllRemembered net knots (set parts k new)
  kept_or_gone parts plans p new here stays =
      exchanged parts plans new (stay_or_go net (in_knot knots.numbers k) sides p.entries new.entries (right_here parts plans p here) stays)

  -- An entry more is remembered of the part, besides the others or alone.
  pub remembered : (turn : ℕ) (parts : List RememberedPart) → AreAllRemembered net knots parts → (key : List Look) → IsKey net sides turn key → (items : List (Option Value)) → Decide net sides items → (rows those : List ℕ) → HasFirst net knots.numbers turn rows k → those ≡ part_rows sides rows
      → (choices : ℕ) → HasBounds net (in_knot knots.numbers k) choices → (flowing : List ℕ) → AreFlowingOf net (in_knot knots.numbers k) rows flowing → (p roomy new : RememberedPart) → p ≡ get_or parts k p → StayOrGo p.entries roomy.entries
      → new.entries ≡ roomy.entries ++ record { key = key; items = items; rows = those; flowing = flowing; choices = choices } ∷ []
      → AreAllRemembered net knots (set parts k new)
  remembered turn parts plans key is_key items decide rows those first told choices has flowing of p roomy new here stays added =
      let entry : RememberedRows = record { key = key; items = items; rows = those; flowing = flowing; choices = choices } in
      let others : AreRemembered net (in_knot knots.numbers k) sides roomy.entries = stay_or_go net (in_knot knots.numbers k) sides p.entries roomy.entries (right_here parts plans p here) stays in
      let more : AreRemembered net (in_knot knots.numbers k) sides (roomy.entries ++ entry ∷ []) =
      one_more net (in_knot knots.numbers k) sides roomy.entries entry others (new_entry turn key is_key items decide rows those first told choices has flowing of) in
      exchanged parts plans new (subst (AreRemembered net (in_knot knots.numbers k) sides) (sym added) more)
