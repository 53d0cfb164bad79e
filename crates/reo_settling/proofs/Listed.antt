-- Lists of the joints that flow, part by part.
use Rattle.std.proofs.Common.{◌≡◌, ◌≢◌, ◌∙◌, inl, inr, ℕ, ◌+◌, ◌<◌, ◌≤◌, Bool, true, List, [], length, get_or, get_or-set_same, get_or-set_other, set, refl, ap, sym, subst, arith}
use Rattle.std.proofs.lemmas.Bool.{cases_eq}
use Rattle.std.proofs.lemmas.List.{length-set}
use Rattle.std.proofs.lemmas.List.Elements.{Contains-get_or}
use Rattle.reo_net_base.specs.Behaviour.{Behaviour}
use Rattle.reo_net_base.specs.declared.joint.End.{End}
use Rattle.reo_net_base.specs.Net.{Net, all_sides, behaviour_at, first_side, mark_at, row_count, side_at}
use Rattle.reo_net_base.specs.Sides.{side_count}
use Rattle.reo_net_base.specs.Wired.{IsWired, IsEnd}
use Rattle.reo_net_circuit.proofs.ReshapeLemmas.{first_same}
use Rattle.reo_net_laws.proofs.Sides.{side_at_place}
use Rattle.reo_net_laws.specs.Knots.{Knotted, AreKnots, in_knot, knot_count}
use Rattle.reo_weights.specs.still.Joining.{HasFirst}
use Rattle.reo_search_tables.specs.Orders.{AreJointsOf, AreOrders}
use Rattle.reo_search_tables.proofs.Sorted.{orders_are_of_parts}
use Rattle.reo_flows.specs.flowing.Flowing.{AreFlowingIn, AreFlowingOf, AreJointsIn, AreRowsIn, flowing_of}
use Rattle.reo_flows.proofs.flowing.Staying.{flowing_stay}
use Rattle.reo_part_plans.specs.Plannings.{Kept, is_settled, IsPartPlanned, AreFewer, IsElsewhere}
use Rattle.reo_part_plans.proofs.Plannings.{mark_same, elsewhere, number_is, mark_is}
use Rattle.reo_part_plans.proofs.Recalled.{same_shapes}
use Rattle.reo_settling.specs.declared.lookups.Lookups.{Lookups}
use Rattle.reo_settling.specs.Lookups.{AreListed, AreToldFor, IsListedAt}
pub use Rattle.reo_search_tables.proofs.Renewed.{on_ok as map_ok}

-- The joints that flow in a part are the same by rows that are the same there.
pub flowing_same : (net : Net) → IsWired net → (inside : ℕ → Bool) (rows others : List ℕ) → ((s : ℕ) → s < side_count net → inside s ≡ true → get_or others s 0 ≡ get_or rows s 0)
    → (list : List ℕ) → AreFlowingOf net inside rows list → AreFlowingOf net inside others list
flowing_same net wired inside rows others same list are = flowing_stay net net wired refl (same_shapes net.primitives) inside rows others (mark_same net wired inside rows others same) list are

-- Rows of the first assignment of a part are in its tables.
pub first_in_tables : (net : Net) (knots : Knotted) (turn k : ℕ) (rows : List ℕ) → length rows ≡ side_count net → HasFirst net knots.numbers turn rows k → AreRowsIn net (in_knot knots.numbers k) rows
first_in_tables net knots turn k rows one_row first = record {
  one_row = one_row;
  in_tables = λ s d lt h. subst (λ (r : ℕ). r < row_count (get_or (all_sides net.primitives) s d)) (sym (first.same s lt h)) (first.first.assignment.in_tables s d lt h);
}

-- The lists of the parts below a number are those of some rows, and those of settled parts from it on those of the rows
-- that are kept, if they are told.
pub record IsListedFar (net : Net) (knots : Knotted) (kept : Kept) (told : Bool) (n : ℕ) (rows : List ℕ) (lists : List (List ℕ)) : Type 0 where
  pub one_each : length lists ≡ knot_count knots
  pub done : (k : ℕ) → k < n → AreFlowingOf net (in_knot knots.numbers k) rows (get_or lists k [])
  pub rest : told ≡ true → (k : ℕ) → n ≤ k → k < knot_count knots → is_settled kept k ≡ true → AreFlowingOf net (in_knot knots.numbers k) kept.rows (get_or lists k [])

pub listed_none : (net : Net) (knots : Knotted) (kept : Kept) (told : Bool) (rows : List ℕ) (lists others : List (List ℕ)) → others ≡ lists → length lists ≡ knot_count knots
    → (told ≡ true → AreFlowingIn net knots kept.rows (is_settled kept) lists) → IsListedFar net knots kept told 0 rows others
listed_none net knots kept told rows lists others same one_each are = record {
  one_each = ap length same ∙ one_each;
  done = λ k lt. absurd (omega arith);
  rest = λ yes_ k le lt settled. subst (λ (ls : List (List ℕ)). AreFlowingOf net (in_knot knots.numbers k) kept.rows (get_or ls k [])) (sym same) ((are yes_).each k lt settled);
}

-- One part more.
pub listed_more : (net : Net) → IsWired net → (knots : Knotted) (kept : Kept) (told : Bool) (budget turn n : ℕ) (rows new : List ℕ) (old now : Lookups) → IsListedFar net knots kept told n rows old.flowing
    → IsPartPlanned budget net knots turn n rows new → IsListedAt n old now → AreFlowingOf net (in_knot knots.numbers n) new (get_or now.flowing n []) → IsListedFar net knots kept told (n + 1) new now.flowing
listed_more net wired knots kept told budget turn n rows new old now far more at here = record {
  one_each = at.one_each ∙ far.one_each;
  done = λ k lt. elim (cases_eq k n) [
    | inl e ↦ subst (λ (m : ℕ). AreFlowingOf net (in_knot knots.numbers m) new (get_or now.flowing m [])) (sym e) here
    | inr ne ↦
        subst (AreFlowingOf net (in_knot knots.numbers k) new) (sym (at.others k ne))
        (flowing_same net wired (in_knot knots.numbers k) rows new (λ s s_in h. more.others s (elsewhere knots.numbers k n s h (λ e. ne (sym e)))) (get_or old.flowing k []) (far.done k (omega (arith, lt, ne))))
  ];
  rest = λ yes_ k le lt settled.
      let ne : k ≢ n = omega (arith, le) in
      subst (AreFlowingOf net (in_knot knots.numbers k) kept.rows) (sym (at.others k ne)) (far.rest yes_ k (omega (arith, le)) lt settled);
}

-- All parts.
pub listed_all : (net : Net) (knots : Knotted) (kept : Kept) (told : Bool) (n : ℕ) (rows : List ℕ) (lists : List (List ℕ)) → n ≡ knot_count knots → IsListedFar net knots kept told n rows lists
    → AreFlowingIn net knots rows (λ _. true) lists
listed_all net knots kept told n rows lists last far = record { one_each = far.one_each; each = λ k lt _. far.done k (omega (arith, lt, last)) }

-- What is told of all parts is told of those that are settled.
pub told_of_some : (net : Net) (knots : Knotted) (rows : List ℕ) (lists : List (List ℕ)) → AreFlowingIn net knots rows (λ _. true) lists → (kept : Kept) → kept.rows ≡ rows → AreFlowingIn net knots kept.rows (is_settled kept) lists
told_of_some net knots rows lists are kept same = record {
  one_each = are.one_each;
  each = λ k lt _. subst (λ (rs : List ℕ). AreFlowingOf net (in_knot knots.numbers k) rs (get_or lists k [])) (sym same) (are.each k lt refl);
}

-- What is told stays right where a circuit changes at no primitive of a part that is still settled.
pub told_stays : (net other : Net) → IsWired net → (knots : Knotted) (old new : Kept) → AreFewer old new → IsElsewhere net other knots new → (lookups : Lookups) → AreToldFor net knots old lookups → AreToldFor other knots new lookups
told_stays net other wired knots old new fewer is lookups told = λ yes_. record {
  one_each = (told yes_).one_each;
  each = λ k lt settled.
      flowing_stay net other wired is.joints is.shapes (in_knot knots.numbers k) old.rows new.rows (marks k settled) (get_or lookups.flowing k []) ((told yes_).each k lt (fewer.fewer k settled));
}
  where
    marks : (k : ℕ) → is_settled new k ≡ true → (e : End) → IsEnd net.primitives e → in_knot knots.numbers k (side_at net e) ≡ true → mark_at other new.rows e ≡ mark_at net old.rows e
    marks k settled e e_in h =
        let b : Behaviour = behaviour_at net.primitives e.primitive in
        let side : ℕ = b.side_of e.end in
        let here : in_knot knots.numbers k (first_side net.primitives e.primitive + side) ≡ true = ap (in_knot knots.numbers k) (sym (side_at_place net e)) ∙ h in
        let same : behaviour_at other.primitives e.primitive ≡ b =
        is.same e.primitive side e_in.0 ((wired.lawful e.primitive e_in.0).sides_in e.end e_in.1) (ap (is_settled new) (number_is knots.numbers k (first_side net.primitives e.primitive + side) here) ∙ settled) in
        let first : first_side other.primitives e.primitive ≡ first_side net.primitives e.primitive = first_same net.primitives other.primitives is.shapes e.primitive in
        mark_is other new.rows e ∙ (λ i. (same i).mark ((same i).side_of e.end) (get_or (fewer.rows i) (first i + (same i).side_of e.end) 0) e.end) ∙ sym (mark_is net old.rows e)

-- One list is written anew.
pub set_listed : (old : Lookups) (part : ℕ) (list : List ℕ) → IsListedAt part old (record old { flowing = set old.flowing part list })
set_listed old part list = record {
  told = refl;
  one_each = length-set old.flowing part list;
  others = λ k ne. get_or-set_other old.flowing part k list [] ne;
}

-- Where all lists stay those of other parts do.
pub all_listed : (part : ℕ) (old new : Lookups) → AreListed old new → IsListedAt part old new
all_listed part old new are = record { told = are.told; one_each = ap length are.flowing; others = λ k ne. ap (λ (ls : List (List ℕ)). get_or ls k []) are.flowing }

-- Lists one after the other.
pub listed_after : (part : ℕ) (old mid new : Lookups) → IsListedAt part old mid → IsListedAt part mid new → IsListedAt part old new
listed_after part old mid new first second = record {
  told = second.told ∙ first.told;
  one_each = second.one_each ∙ first.one_each;
  others = λ k ne. second.others k ne ∙ first.others k ne;
}

-- The joints of a part that flow, as its list says.
pub flowing_listed : (net : Net) (knots : Knotted) (orders : List (List ℕ)) → AreOrders net knots orders → (k : ℕ) → k < knot_count knots → (rows joints list : List ℕ) → joints ≡ get_or orders k [] → list ≡ flowing_of net rows joints
    → (lists : List (List ℕ)) → k < length lists → AreFlowingOf net (in_knot knots.numbers k) rows (get_or (set lists k list) k [])
flowing_listed net knots orders are k lt rows joints list here is lists in_lists = record {
  all = are.all;
  is_order = are.is_order;
  those = get_or-set_same lists k list [] in_lists ∙ is ∙ ap (flowing_of net rows) (here ∙ are.each k lt);
}

-- The joints of a part are its.
pub joints_of_part : (net : Net) → IsWired net → (knots : Knotted) → AreKnots net knots → (orders : List (List ℕ)) → AreOrders net knots orders → (k : ℕ) → k < knot_count knots → (joints : List ℕ) → joints ≡ get_or orders k []
    → AreJointsIn net (in_knot knots.numbers k) joints
joints_of_part net wired knots are orders order k lt joints here m m_in =
    let of : AreJointsOf net (in_knot knots.numbers k) joints = subst (AreJointsOf net (in_knot knots.numbers k)) (sym here) (orders_are_of_parts net wired knots are orders order k lt) in
    (of.exact (get_or joints m 0)).0 (Contains-get_or joints m 0 m_in)
