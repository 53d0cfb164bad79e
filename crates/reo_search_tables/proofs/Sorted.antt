-- The joints of parts, in an order of all joints.
use Rattle.std.proofs.Common.{◌≡◌, ◌≢◌, ◌↔◌, inl, inr, ℕ, ◌+◌, ◌<◌, Bool, true, false, cond, List, [], ◌∷◌, ◌++◌, length, get_or, take, ap, sym, ◌∙◌, subst, arith, append-nil}
use Rattle.std.specs.Prelude.{Contains, nat_lt}
use Rattle.std.specs.Bool.{◌==◌}
use Rattle.std.proofs.lemmas.Bool.Decides.{eqb_tells}
use Rattle.std.proofs.lemmas.List.{get_or_default, take_all}
use Rattle.std.proofs.lemmas.List.Elements.{filter_more}
use Rattle.reo_net_base.specs.declared.joint.Joint.{Joint}
use Rattle.reo_net_base.specs.Behaviour.{Behaviour}
use Rattle.reo_net_base.specs.Net.{Net, side_at}
use Rattle.reo_net_base.specs.Shapes.{SameShapes}
use Rattle.reo_net_base.specs.Wired.{IsWired, IsOrder}
use Rattle.reo_net_circuit.proofs.ReshapeLemmas.{side_same, order_same}
use Rattle.reo_net_laws.specs.Parts.{IsClosed}
use Rattle.reo_net_laws.proofs.Orders.{place_in, place_of}
use Rattle.reo_side_tables.specs.Listing.{AreEmpty, IsAdded}
use Rattle.reo_net_laws.specs.Knots.{Knotted, in_knot, knot_count}
use Rattle.reo_joint_values.specs.InOrder.{joints_in}
use Rattle.reo_joint_values.specs.Standing.{no_joint, giver_of}
use Rattle.reo_joint_values.specs.Many.{IsJointIn}
use Rattle.reo_reach.proofs.PartLemmas.{parts_in_order}
use Rattle.reo_propagate.specs.Queues.{among}
use Rattle.reo_search_tables.proofs.Among.{among_at, among_filter, into_filter}
use Rattle.reo_search_tables.specs.Orders.{AreJointsOf, AreOrders}
use Rattle.reo_search_tables.specs.Laws.{OrdersAreOfParts, OrdersStay}
use Rattle.reo_search_tables.proofs.Renewed.{contains_among, among_contains}
use Rattle.reo_search_tables.proofs.Readied.{in_own}
use Rattle.std.proofs.lemmas.Bool.{false_from_ne_true as not_true, and_parts, eqb-true}
use Rattle.reo_values.proofs.Sequences.{filter_same}

-- For each part those of the first n joints of an order that are its.
pub record ArePicked (net : Net) (numbers order : List ℕ) (n count : ℕ) (orders : List (List ℕ)) : Type 0 where
  pub one_each : length orders ≡ count
  pub each : (k : ℕ) → k < count → get_or orders k [] ≡ joints_in net (in_knot numbers k) (take n order)

-- None was gone through yet.
pub none_picked : (net : Net) (numbers order : List ℕ) (count : ℕ) (orders : List (List ℕ)) → AreEmpty count orders → ArePicked net numbers order 0 count orders
none_picked net numbers order count orders are = record { one_each = are.one_each; each = λ k lt. are.empty k }

-- A side has the number of no other part.
pub not_other : (numbers : List ℕ) (k s : ℕ) → k ≢ get_or numbers s 0 → in_knot numbers k s ≡ false
not_other numbers k s ne = not_true (in_knot numbers k s) (λ h. ne (sym (eqb-true (get_or numbers s 0) k ((and_parts (nat_lt s (length numbers)) (get_or numbers s 0 == k) h).1))))

-- One joint more came to its part.
pub more_picked : (net : Net) (numbers order : List ℕ) (n count part joint : ℕ) (old new : List (List ℕ)) → n < length order → joint ≡ get_or order n 0 → part ≡ get_or numbers (side_at net (giver_of net joint)) 0
    → side_at net (giver_of net joint) < length numbers → ArePicked net numbers order n count old → IsAdded old new part joint → ArePicked net numbers order (n + 1) count new
more_picked net numbers order n count part joint old new lt here of s_in are added = record {
  one_each = added.one_each ∙ are.one_each;
  each = λ k k_in.
      let side : ℕ = side_at net (giver_of net joint) in
      let more = filter_more (λ (j : ℕ). in_knot numbers k (side_at net (giver_of net j))) order n 0 lt in
      let test : in_knot numbers k (side_at net (giver_of net (get_or order n 0))) ≡ in_knot numbers k side = ap (λ (j : ℕ). in_knot numbers k (side_at net (giver_of net j))) (sym here) in
      elim (eqb_tells k part) [
        | inl same ↦
            let is : in_knot numbers k side ≡ true = subst (λ (i : ℕ). in_knot numbers i side ≡ true) (sym of ∙ sym same.1) (in_own numbers side s_in) in
            ap (λ (i : ℕ). get_or new i []) same.1 ∙ added.here ∙ ap (λ (i : ℕ). get_or old i [] ++ joint ∷ []) (sym same.1)
            ∙ ap (λ (xs : List ℕ). xs ++ joint ∷ []) (are.each k k_in)
            ∙ ap (λ (j : ℕ). joints_in net (in_knot numbers k) (take n order) ++ j ∷ []) here
            ∙ ap (λ (t : Bool). joints_in net (in_knot numbers k) (take n order) ++ cond t (get_or order n 0 ∷ []) []) (sym (test ∙ is))
            ∙ sym more
        | inr apart ↦
            let not : in_knot numbers k side ≡ false = not_other numbers k side (λ e. apart.1 (e ∙ sym of)) in
            added.other k apart.1 ∙ are.each k k_in
            ∙ sym (append-nil (joints_in net (in_knot numbers k) (take n order)))
            ∙ ap (λ (t : Bool). joints_in net (in_knot numbers k) (take n order) ++ cond t (get_or order n 0 ∷ []) []) (sym (test ∙ not))
            ∙ sym more
      ];
}

-- All were gone through.
pub all_picked : (net : Net) (knots : Knotted) (order : List ℕ) (n : ℕ) (orders : List (List ℕ)) → IsOrder net order → n ≡ length order → ArePicked net knots.numbers order n (knot_count knots) orders → AreOrders net knots orders
all_picked net knots order n orders is all are = record {
  all = order;
  is_order = is;
  one_each = are.one_each;
  each = λ k lt. are.each k lt ∙ ap (joints_in net (in_knot knots.numbers k)) (take_all n order (omega (arith, all)));
}

module _ (net : Net) (wired : IsWired net) (order : List ℕ) (is : IsOrder net order) (inside : ℕ → Bool) where
  abbrev starts_in : ℕ → Bool
  starts_in j = inside (side_at net (giver_of net j))

  exact : (j : ℕ) → Contains (joints_in net inside order) j ↔ IsJointIn net inside j
  exact j = (
    (λ h.
        let it = among_filter (λ (j : ℕ). inside (side_at net (giver_of net j))) order j (contains_among (joints_in net inside order) j h) in
        let place = among_contains order j it.1 in
        (subst (λ (k : ℕ). k < length net.joints) (at_place j place) (place_in net order is place.0 place.1), it.0)),
    (λ h.
        let place = place_of net order is j h.0 in
        among_contains (joints_in net inside order) j
        (into_filter (λ (j : ℕ). inside (side_at net (giver_of net j))) order j h.1 (subst (λ (k : ℕ). among order k ≡ true) place.2 (among_at order place.0 place.1)))),
  )
    where
      at_place : (j : ℕ) (place : Contains order j) → get_or order place.0 0 ≡ j
      at_place j place = get_or_default order place.0 0 j place.1 ∙ place.2

  pub joints_of_set : IsClosed net inside → AreJointsOf net inside (joints_in net inside order)
  joints_of_set closed = record { in_order = parts_in_order net wired order is inside closed; exact = exact }

pub orders_are_of_parts : OrdersAreOfParts
orders_are_of_parts net wired knots are orders is k lt =
    subst (λ (xs : List ℕ). AreJointsOf net (in_knot knots.numbers k) xs) (sym (is.each k lt))
    (joints_of_set net wired is.all is.is_order (in_knot knots.numbers k) (are.are_knots k lt).closed)

module _ (bs ds : List Behaviour) (js : List Joint) (wired : IsWired (record { primitives = bs; joints = js })) (shapes : SameShapes bs ds) where
  abbrev old : Net
  old = record { primitives = bs; joints = js }

  abbrev new : Net
  new = record { primitives = ds; joints = js }

  pub orders_on : (knots : Knotted) (orders : List (List ℕ)) → AreOrders old knots orders → AreOrders new knots orders
  orders_on knots orders are = record {
    all = are.all;
    is_order = order_same bs ds shapes js wired are.all are.is_order;
    one_each = are.one_each;
    each = λ k lt.
        are.each k lt
        ∙ filter_same (λ (j : ℕ). in_knot knots.numbers k (side_at old (giver_of old j))) (λ (j : ℕ). in_knot knots.numbers k (side_at new (giver_of new j))) are.all
        (λ m m_lt.
        let j : ℕ = get_or are.all m 0 in
        let j_in : get_or are.all m 0 < length js = place_in old are.all are.is_order m m_lt in
        ap (in_knot knots.numbers k) (sym (side_same bs ds shapes js (get_or js j no_joint).giver (wired.givers j no_joint j_in))));
  }

pub orders_stay : OrdersStay
orders_stay net other wired joints shapes knots orders are =
    subst (λ (js : List Joint). AreOrders (record { primitives = other.primitives; joints = js }) knots orders) (sym joints)
    (orders_on net.primitives other.primitives net.joints wired shapes knots orders are)
