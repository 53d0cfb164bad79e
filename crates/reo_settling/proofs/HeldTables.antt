-- Tables that are kept, and what is looked up.
use Rattle.std.proofs.Common.{◌≡◌, ◌∙◌, inl, inr, ℕ, ◌+◌, ◌*◌, ◌<◌, ◌≤◌, ◌≢◌, Bool, true, false, Some, None, Option, List, length, get_or, ap, sym, subst, arith}
use Rattle.std.specs.Prelude.{Result, Ok, Err, OnErr}
use Rattle.std.proofs.lemmas.Bool.{cases_Bool, cases_lt, both_ways, cases_eq}
use Rattle.reo_flags.specs.Next.{IsNext}
use Rattle.reo_flags.specs.Where.{AreKeptWhere}
use Rattle.reo_net_base.specs.Net.{Net, first_side}
use Rattle.reo_net_base.specs.Wired.{IsWired}
use Rattle.reo_net_circuit.specs.found_ends.Ends.{AreEnds}
use Rattle.reo_net_laws.specs.Knots.{Knotted, AreKnots, in_knot, knot_count}
use Rattle.reo_search_tables.specs.declared.tables.SearchTables.{SearchTables}
use Rattle.reo_search_tables.specs.SearchTables.{HasRoom, AreReady, AreRightOn}
use Rattle.reo_search_tables.specs.Laws.{IsSameOn}
use Rattle.reo_search_tables.specs.Orders.{AreOrders}
use Rattle.reo_search_tables.proofs.Readied.{ready_tables_are_right, right_parts_are_ready}
use Rattle.reo_search_tables.proofs.Sorted.{orders_stay}
use Rattle.reo_search_tables.proofs.Staying.{right_tables_stay, room_stays}
use Rattle.reo_flows.specs.flowing.Flowing.{AreFlowingIn}
use Rattle.reo_part_plans.specs.Plannings.{Kept, is_settled, AreFewer, IsElsewhere}
use Rattle.reo_part_plans.proofs.Plannings.{number_is}
use Rattle.reo_net_base.specs.Shapes.{SameShapes}
use Rattle.reo_net_base.specs.declared.joint.Joint.{Joint}
use Rattle.reo_net_laws.proofs.Shapes.{count_same}
use Rattle.reo_mark_search.specs.MarkFinding.{IsMarkSearch}
use Rattle.reo_mark_search.specs.Spots.{spot_of}
use Rattle.reo_mark_search.specs.declared.search.MarkSearch.{MarkSearch}
use Rattle.reo_item_bounds.specs.Kept.{AreKeptBounds}
use Rattle.reo_item_bounds.proofs.Noting.{kept_bounds_stay}
use Rattle.reo_part_plans.specs.Remembered.{AreAllRemembered}
use Rattle.reo_part_plans.proofs.Recalled.{plans_stay}
use Rattle.reo_settling.specs.declared.lookups.Lookups.{Lookups}
use Rattle.reo_settling.specs.Held.{is_fresh, AreFreshTables, MayBeFresh, MayBeKept}
use Rattle.reo_settling.specs.Lookups.{AreLookups, AreSteady, AreToldFor, LookupsStay, IsForgotten}
use Rattle.reo_settling.proofs.Listed.{told_stays}

-- No primitive of a settled part is another.
same_on : (net other : Net) (knots : Knotted) (kept : Kept) → IsElsewhere net other knots kept → (k : ℕ) → is_settled kept k ≡ true → IsSameOn net other (in_knot knots.numbers k)
same_on net other knots kept is k settled = record {
  joints = is.joints;
  shapes = is.shapes;
  same = λ i side i_in side_in h. is.same i side i_in side_in (ap (is_settled kept) (number_is knots.numbers k (first_side net.primitives i + side) h) ∙ settled);
}

tables_elsewhere : (net other : Net) → IsWired net → (knots : Knotted) → AreKnots net knots → (old new : Kept) → AreFewer old new → IsElsewhere net other knots new
    → (fresh : List Bool) (tables : Option SearchTables) → MayBeKept net knots old fresh tables → MayBeKept other knots new fresh tables
tables_elsewhere net other wired knots are old new fewer is fresh None kept = tt
tables_elsewhere net other wired knots are old new fewer is fresh (Some tables) kept = record {
  room = room_stays net other is.joints is.shapes tables kept.room;
  right = λ k lt marked settled.
      right_tables_stay net other wired (in_knot knots.numbers k) (are.are_knots k lt).closed (same_on net other knots new is k settled) tables (kept.right k lt marked (fewer.fewer k settled));
}

-- What the search by marks keeps is right for each circuit of the same shape.
marks_stay : (net other : Net) → other.joints ≡ net.joints → SameShapes net.primitives other.primitives → (marks : MarkSearch) → IsMarkSearch net marks → IsMarkSearch other marks
marks_stay net other joints shapes marks is = record {
  spots = record {
    one_list = is.spots.one_list ∙ sym shapes.count;
    one_each = λ i lt. let i_in : i < length net.primitives = omega (arith, lt, shapes.count) in is.spots.one_each i i_in ∙ sym (shapes.same i i_in).ends;
    giver = λ j d lt. subst (λ (js : List Joint). (m : ℕ) (e : Joint) → m < length js → spot_of marks.spots (get_or js m e).giver ≡ 2 * m) (sym joints) is.spots.giver j d lt;
    taker = λ j d lt. subst (λ (js : List Joint). (m : ℕ) (e : Joint) → m < length js → spot_of marks.spots (get_or js m e).taker ≡ 2 * m + 1) (sym joints) is.spots.taker j d lt;
  };
  one_form = is.one_form ∙ sym (count_same net.primitives other.primitives shapes);
  two_each = is.two_each ∙ ap (λ (js : List Joint). 2 * length js) (sym joints);
}

pub lookups_stay : LookupsStay
lookups_stay net other wired knots are old new fewer is alike lookups held = record {
  orders = orders_stay net other wired is.joints is.shapes knots lookups.orders held.orders;
  one_list = held.one_list;
  flowing = told_stays net other wired knots old new fewer is lookups held.flowing;
  one_each = held.one_each;
  tables = tables_elsewhere net other wired knots are old new fewer is lookups.fresh lookups.tables held.tables;
  bounds = kept_bounds_stay net other is.joints is.shapes lookups.bounds held.bounds;
  plans = plans_stay net other is.joints is.shapes alike knots lookups.plans held.plans;
  marks = marks_stay net other is.joints is.shapes lookups.marks held.marks;
}

kept_tables : (net : Net) (knots : Knotted) (kept : Kept) (fresh : List Bool) (tables : Option SearchTables) → MayBeFresh net knots fresh tables → MayBeKept net knots kept fresh tables
kept_tables net knots kept fresh None may = tt
kept_tables net knots kept fresh (Some tables) may = record { room = may.room; right = λ k lt marked settled. may.right k lt marked }

-- What is steady is right whichever parts are settled.
steady_is : (net : Net) (knots : Knotted) (kept : Kept) (lookups : Lookups) → AreSteady net knots lookups → AreToldFor net knots kept lookups → AreLookups net knots kept lookups
steady_is net knots kept lookups steady told = record {
  orders = steady.orders;
  one_list = steady.one_list;
  flowing = told;
  one_each = steady.one_each;
  tables = kept_tables net knots kept lookups.fresh lookups.tables steady.tables;
  bounds = steady.bounds;
  plans = steady.plans;
  marks = steady.marks;
}

-- What is steady and told.
pub told_is : (net : Net) (knots : Knotted) (kept : Kept) (lookups : Lookups) → AreSteady net knots lookups → AreFlowingIn net knots kept.rows (is_settled kept) lookups.flowing → AreLookups net knots kept (record lookups { told = true })
told_is net knots kept lookups steady told = record {
  orders = steady.orders;
  one_list = steady.one_list;
  flowing = λ _. told;
  one_each = steady.one_each;
  tables = kept_tables net knots kept lookups.fresh lookups.tables steady.tables;
  bounds = steady.bounds;
  plans = steady.plans;
  marks = steady.marks;
}

-- What is steady and not told.
pub untold_is : (net : Net) (knots : Knotted) (kept : Kept) (lookups : Lookups) → AreSteady net knots lookups → lookups.told ≡ false → AreLookups net knots kept lookups
untold_is net knots kept lookups steady untold = steady_is net knots kept lookups steady (λ told. absurd (both_ways lookups.told untold told))

pub refused_by : {X E R : Type 0} (r : Result X E) → R → OnErr r R
refused_by (Ok x) h = tt
refused_by (Err e) h = h

fresh_tables : (net : Net) (knots : Knotted) (kept : Kept) (old new : List Bool) → length new ≡ knot_count knots → ((k : ℕ) → k < length new → is_fresh new k ≡ true → (is_fresh old k ≡ true) × (is_settled kept k ≡ true))
    → (tables : Option SearchTables) → MayBeKept net knots kept old tables → MayBeFresh net knots new tables
fresh_tables net knots kept old new one_each fewer None may = tt
fresh_tables net knots kept old new one_each fewer (Some tables) may = record {
  room = may.room;
  right = λ k lt marked. let before = fewer k (omega (arith, lt, one_each)) marked in may.right k lt before.0 before.1;
}

-- Marks that stay only where parts are settled.
pub fresh_kept : (kept : Kept) (old new : List Bool) → AreKeptWhere true kept.settled old new → (k : ℕ) → is_fresh new k ≡ true → (is_fresh old k ≡ true) × (is_settled kept k ≡ true)
fresh_kept kept old new are k h = elim (cases_Bool (is_settled kept k)) [
  | inl settled ↦ (sym (are.kept k settled) ∙ h, settled)
  | inr open_ ↦ absurd (both_ways (is_fresh new k) (are.gone k open_) h)
]

-- Where the tables of parts that are not settled are forgotten, what is looked up is steady.
pub forgotten_is : (net : Net) (knots : Knotted) (kept : Kept) (old new : Lookups) → AreLookups net knots kept old → IsForgotten kept old new → AreSteady net knots new
forgotten_is net knots kept old new are is = record {
  orders = subst (AreOrders net knots) (sym is.orders) are.orders;
  one_list = ap length is.flowing ∙ are.one_list;
  one_each = is.one_each ∙ are.one_each;
  tables = subst (MayBeFresh net knots new.fresh) (sym is.tables) (fresh_tables net knots kept old.fresh new.fresh (is.one_each ∙ are.one_each) is.fewer old.tables are.tables);
  bounds = subst (AreKeptBounds net) (sym is.bounds) are.bounds;
  plans = subst (AreAllRemembered net knots) (sym is.plans) are.plans;
  marks = subst (IsMarkSearch net) (sym is.marks) are.marks;
}

-- And also where it is told no more which joints flow.
pub forgotten_steady : (net : Net) (knots : Knotted) (kept : Kept) (old : Lookups) (told : Bool) (new : Lookups) → told ≡ false → AreLookups net knots kept old → IsForgotten kept (record old { told = told }) new → AreSteady net knots new
forgotten_steady net knots kept old told new untold are is =
    let now : AreLookups net knots kept (record old { told = told }) = record {
      orders = are.orders;
      one_list = are.one_list;
      flowing = λ yes_. absurd (both_ways told untold yes_);
      one_each = are.one_each;
      tables = are.tables;
      bounds = are.bounds;
      plans = are.plans;
      marks = are.marks;
    } in
    forgotten_is net knots kept (record old { told = told }) new now is

-- Tables that are ready are right wherever a part is marked.
pub ready_may_stay : (net : Net) (knots : Knotted) (ends : List (List ℕ)) (fresh : List Bool) (tables : SearchTables) → AreReady net ends tables → AreFreshTables net knots fresh tables
ready_may_stay net knots ends fresh tables ready =
    let right = ready_tables_are_right net ends tables ready in
    record { room = right.0; right = λ k lt marked. right.1 (in_knot knots.numbers k) }

-- There is room, and the tables are right on the first n parts and on those that are fresh.
pub record AreRenewed (net : Net) (knots : Knotted) (fresh : List Bool) (n : ℕ) (tables : SearchTables) : Type 0 where
  pub room : HasRoom net tables
  pub done : (k : ℕ) → k < n → AreRightOn net (in_knot knots.numbers k) tables
  pub rest : (k : ℕ) → k < knot_count knots → is_fresh fresh k ≡ true → AreRightOn net (in_knot knots.numbers k) tables

-- None is made anew yet.
pub renewed_none : (net : Net) (knots : Knotted) (fresh : List Bool) (tables : SearchTables) → AreFreshTables net knots fresh tables → AreRenewed net knots fresh 0 tables
renewed_none net knots fresh tables are = record { room = are.room; done = λ k lt. absurd (omega arith); rest = are.right }

-- One part more is right.
pub renewed_more : (net : Net) (knots : Knotted) (fresh : List Bool) (n : ℕ) (old new : SearchTables) → n < knot_count knots → AreRenewed net knots fresh n old → HasRoom net new → AreRightOn net (in_knot knots.numbers n) new
    → ((k : ℕ) → k < knot_count knots → k ≢ n → AreRightOn net (in_knot knots.numbers k) old → AreRightOn net (in_knot knots.numbers k) new)
    → AreRenewed net knots fresh (n + 1) new
renewed_more net knots fresh n old new n_in far room right others = record {
  room = room;
  done = λ k lt. by k (λ ne. others k (omega arith) ne (far.done k (omega arith)));
  rest = λ k lt settled. by k (λ ne. others k lt ne (far.rest k lt settled));
}
  where
    by : (k : ℕ) → (k ≢ n → AreRightOn net (in_knot knots.numbers k) new) → AreRightOn net (in_knot knots.numbers k) new
    by k other = elim (cases_eq k n) [ inl e ↦ subst (λ (m : ℕ). AreRightOn net (in_knot knots.numbers m) new) (sym e) right | inr ne ↦ other ne ]

-- What is right up to a part is right up to the next that is not fresh.
pub renewed_next : (net : Net) (knots : Knotted) (fresh : List Bool) (n next : ℕ) (tables : SearchTables) → next ≤ knot_count knots → IsNext false fresh n next → AreRenewed net knots fresh n tables → AreRenewed net knots fresh next tables
renewed_next net knots fresh n next tables in_range is far = record {
  room = far.room;
  done = λ k lt. elim (cases_lt k n) [
    | inl low ↦ far.done k low
    | inr high ↦ far.rest k (omega arith) (is.none_before k high lt)
  ];
  rest = far.rest;
}

-- All parts are right, so the tables are ready.
pub renewed_all : (net : Net) → IsWired net → (ends : List (List ℕ)) → AreEnds net ends → (knots : Knotted) → AreKnots net knots → (fresh : List Bool) (tables : SearchTables) → AreRenewed net knots fresh (knot_count knots) tables
    → AreReady net ends tables
renewed_all net wired ends are_ends knots are fresh tables far = right_parts_are_ready net wired ends are_ends knots are tables far.room far.done
