-- Items that rows determine.
use Rattle.std.proofs.Common.{◌≡◌, ◌≢◌, inl, inr, ℕ, zero, suc, ◌+◌, ◌<◌, List, [], ◌∷◌, Option, None, Some, Bool, true, false, length, get_or, set, drop, refl, ap, sym, ◌∙◌, arith, rules, cond, add-one, get_or-set_same, get_or-set_other}
use Rattle.std.proofs.lemmas.Bool.{cases_eq}
use Rattle.std.specs.Option.{option_and_then}
use Rattle.std.proofs.Math.Seq.{drop-cons}
use Rattle.std.proofs.lemmas.List.{get_or_default, same_lists, drop_all}
use Rattle.reo_values.specs.declared.value.Value.{Value}
use Rattle.reo_net_base.specs.declared.mark.Mark.{Mark}
use Rattle.reo_net_base.specs.declared.mark.Mark.TheVariants.{F, G, R, J}
use Rattle.reo_net_base.specs.declared.joint.End.{End}
use Rattle.reo_net_base.specs.declared.joint.Joint.{Joint}
use Rattle.reo_net_base.specs.Marks.{is_flow}
use Rattle.reo_net_base.specs.Behaviour.{Behaviour}
use Rattle.reo_net_base.specs.Net.{Net, all_sides, behaviour_at, end_eq, end_of, row_at, mark_at, side_at}
use Rattle.reo_net_base.specs.Colouring.{AreRows, taken_at, given_at, item_given, ItemFits, IsColouring, IsFilled}
use Rattle.reo_net_base.specs.Ends.{IsGiver, IsTaker}
use Rattle.reo_net_base.specs.Wired.{IsWired, IsOrder}
use Rattle.reo_net_circuit.specs.found_ends.Ends.{joint_at, AreEnds}
use Rattle.reo_net_circuit.proofs.found_ends.EndLemmas.{taker_at, of_taker}
use Rattle.reo_net_laws.proofs.Items.{end_is, given_same, end_same}
use Rattle.reo_net.proofs.Sides.{gives_at, row_in_table, row_below, side_in_range, same_side_at}
use Rattle.reo_net_laws.proofs.Orders.{no_joint, Feeds, place_in, place_of, fed_before}
use Rattle.reo_net.proofs.colouring.FilledBefore.{AreFilledBefore}

-- The ends of a joint.
module _ (net : Net) (wired : IsWired net) (j : ℕ) (d : Joint) (lt : j < length net.joints) where
  pub joint_giver : IsGiver net (get_or net.joints j d).giver
  joint_giver = record { is_end = wired.givers j d lt; gives = wired.gives j d lt }

  pub joint_taker : IsTaker net (get_or net.joints j d).taker
  joint_taker = record { is_end = wired.takers j d lt; takes = wired.takes j d lt }

-- The item at the joint that goes to an end, from a joint on.
pub taken_from : (joints : List Joint) (items : List (Option Value)) (e : End) (i : ℕ) (d : Joint) → i < length joints → length items ≡ length joints
    → taken_at (drop i joints) (drop i items) e ≡ cond (end_eq (get_or joints i d).taker e) (get_or items i None) (taken_at (drop (i + 1) joints) (drop (i + 1) items) e)
taken_from joints items e i d lt same =
    let in_items : i < length items = omega arith in
    rw (add-one, drop-cons joints i d, drop-cons items i None) refl

pub taken_past : (joints : List Joint) (items : List (Option Value)) (e : End) (i : ℕ) → length joints ≡ i → taken_at (drop i joints) (drop i items) e ≡ None
taken_past joints items e i n = rw (drop_all i joints (omega arith)) refl

-- The item at the only joint that goes to an end.
taken_at_joint : (joints : List Joint) (items : List (Option Value)) (e : End) (k : ℕ) → length items ≡ length joints → k < length joints → ((d : Joint) → (get_or joints k d).taker ≡ e)
    → ((m : ℕ) (d : Joint) → m < length joints → (get_or joints m d).taker ≡ e → m ≡ k) → taken_at joints items e ≡ get_or items k None
taken_at_joint [] items e k n lt is only = absurd (omega arith)
taken_at_joint (j ∷ js) [] e k n lt is only = absurd (omega arith)
taken_at_joint (j ∷ js) (x ∷ xs) e zero n lt is only = ap (λ (t : Bool). cond t x (taken_at js xs e)) (end_same j.taker e (is j))
taken_at_joint (j ∷ js) (x ∷ xs) e (suc k) n lt is only =
    elim (end_eq j.taker e) as (λ t. end_eq j.taker e ≡ t → cond t x (taken_at js xs e) ≡ get_or xs k None) [
      | true ↦ λ same. absurd (let here : zero ≡ suc k = only zero j (omega arith) (end_is j.taker e same) in omega (arith, here))
      | false ↦ λ other. taken_at_joint js xs e k (omega arith) (omega arith) is (λ m d m_lt same. let at : suc m ≡ suc k = only (suc m) d (omega arith) same in omega (arith, at))
    ] refl

-- The item that comes in at an end stands at its joint.
pub taken_by_ends : (net : Net) → IsWired net → (table : List (List ℕ)) → AreEnds net table → (items : List (Option Value)) → length items ≡ length net.joints → (e : End) → IsTaker net e
    → taken_at net.joints items e ≡ get_or items (joint_at table e) None
taken_by_ends net wired table are items n e is =
    taken_at_joint net.joints items e (joint_at table e) n (are.in_range e is.is_end) (λ d. taker_at net wired table are e d is)
    (λ m d lt same. sym (of_taker net wired table are m d lt) ∙ ap (joint_at table) same)

-- What a row gives, by where it comes from.
pub given_none : (net : Net) (rows : List ℕ) (items : List (Option Value)) (e : End)
    → (behaviour_at net.primitives e.primitive).from ((behaviour_at net.primitives e.primitive).side_of e.end) (row_at net rows e) e.end ≡ None
    → given_at net rows items e ≡ (behaviour_at net.primitives e.primitive).given ((behaviour_at net.primitives e.primitive).side_of e.end) (row_at net rows e) e.end None
unfolding given_at
given_none net rows items e is =
    ap (λ (o : Option ℕ). (behaviour_at net.primitives e.primitive).given ((behaviour_at net.primitives e.primitive).side_of e.end) (row_at net rows e) e.end (option_and_then (λ from. taken_at net.joints items (end_of e.primitive from)) o)) is

pub given_some : (net : Net) (rows : List ℕ) (items : List (Option Value)) (e : End) (from : ℕ)
    → (behaviour_at net.primitives e.primitive).from ((behaviour_at net.primitives e.primitive).side_of e.end) (row_at net rows e) e.end ≡ Some from
    → given_at net rows items e ≡ (behaviour_at net.primitives e.primitive).given ((behaviour_at net.primitives e.primitive).side_of e.end) (row_at net rows e) e.end (taken_at net.joints items (end_of e.primitive from))
unfolding given_at
given_some net rows items e from is =
    ap (λ (o : Option ℕ). (behaviour_at net.primitives e.primitive).given ((behaviour_at net.primitives e.primitive).side_of e.end) (row_at net rows e) e.end (option_and_then (λ from. taken_at net.joints items (end_of e.primitive from)) o)) is

pub flow_cases : (m : Mark) (x y : Option Value) → (m ≡ F → x ≡ y) → cond (is_flow m) x None ≡ cond (is_flow m) y None
flow_cases F x y h = h refl
flow_cases G x y h = refl
flow_cases R x y h = refl
flow_cases J x y h = refl

not_flow : (m : Mark) (g : Option Value) → m ≢ F → None ≡ cond (is_flow m) g None
not_flow F g n = absurd (n refl)
not_flow G g n = refl
not_flow R g n = refl
not_flow J g n = refl

flow_gives : (m : Mark) (g : Option Value) (item : Value) → m ≡ F → g ≡ Some item → Some item ≡ cond (is_flow m) g None
flow_gives F g item f h = sym h
flow_gives G g item f h = cc
flow_gives R g item f h = cc
flow_gives J g item f h = cc

pub fits_given : (net : Net) (rows : List ℕ) (items : List (Option Value)) (j : Joint) (o : Option Value) → ItemFits net rows items j o → o ≡ item_given net rows items j
unfolding item_given
fits_given net rows items j None h = not_flow (mark_at net rows j.giver) (given_at net rows items j.giver) h
fits_given net rows items j (Some item) h = flow_gives (mark_at net rows j.giver) (given_at net rows items j.giver) item h.flows h.given

-- The items of a colouring are those that its rows determine.
pub filled_from : (net : Net) (rows : List ℕ) (items : List (Option Value)) → IsColouring net rows items → IsFilled net rows items
filled_from net rows items col = record {
  one_each = col.one_each;
  determined = λ j d lt. fits_given net rows items (get_or net.joints j d) (get_or items j None) (col.items_fit j d lt);
}

module _ (net : Net) (wired : IsWired net) (rows : List ℕ) (are : AreRows (all_sides net.primitives) rows) where
  -- The item that the rows put at a joint hangs on those at the joints that feed it.
  pub item_same : (j : ℕ) (d : Joint) → j < length net.joints → (xs ys : List (Option Value)) → length xs ≡ length net.joints → length ys ≡ length net.joints
      → ((k : ℕ) (e : Joint) → k < length net.joints → Feeds net (get_or net.joints k e) (get_or net.joints j d) → get_or xs k None ≡ get_or ys k None)
      → item_given net rows xs (get_or net.joints j d) ≡ item_given net rows ys (get_or net.joints j d)
  unfolding item_given
  item_same j d lt xs ys m n fed =
      let giver : End = (get_or net.joints j d).giver in
      let at : Behaviour = behaviour_at net.primitives giver.primitive in
      let e_in = wired.givers j d lt in
      let below = row_in_table net wired giver e_in rows (record { of = at; number = 0 }) (row_below (all_sides net.primitives) rows are (side_at net giver) (record { of = at; number = 0 }) (side_in_range net wired giver e_in)) in
      flow_cases (mark_at net rows giver) (given_at net rows xs giver) (given_at net rows ys giver) (λ flows.
      given_same net wired rows xs ys giver e_in m n (gives_at net wired giver e_in rows (wired.gives j d lt) below flows) (λ from k e from_in k_in taker.
      fed k e k_in (ap (side_at net) taker ∙ same_side_at net giver from from_in)))

  module _ (order : List ℕ) (is_order : IsOrder net order) where
    -- One joint more has its item.
    pub filled_more : (items : List (Option Value)) → length items ≡ length net.joints → (at j : ℕ) (dj : Joint) (item : Option Value)
        → at < length order → get_or order at 0 ≡ j → item ≡ item_given net rows items (get_or net.joints j dj)
        → AreFilledBefore net rows order at items → AreFilledBefore net rows order (at + 1) (set items j item)
    filled_more items n at j dj item lt there is done m d m_lt =
        let j_in : j < length net.joints = rw there at (place_in net order is_order at lt) in
        let new : List (Option Value) = set items j item in
        let new_length : length new ≡ length net.joints = search (rules, n) in
        let m_in : m < length order = omega (arith, m_lt) in
        let kept : item_given net rows items (get_or net.joints (get_or order m 0) d) ≡ item_given net rows new (get_or net.joints (get_or order m 0) d) =
        item_same (get_or order m 0) d (place_in net order is_order m m_in) items new n new_length (λ k e k_in feeds.
        let earlier = fed_before net order is_order m d m_in k e k_in feeds in
        let before : get_or order earlier.0 0 ≢ get_or order at 0 = is_order.once earlier.0 at (omega (arith, earlier.1, m_lt)) lt in
        let other : k ≢ j = λ same. before (earlier.2 ∙ same ∙ sym there) in
        sym (get_or-set_other items j k item None other)) in
        elim (cases_eq m at) [
          | inl here ↦
              let place : get_or order m 0 ≡ j = rw here there in
              rw place (get_or-set_same items j item None (omega (arith, n, j_in)) ∙ is ∙ ap (λ (x : Joint). item_given net rows items x) (get_or_default net.joints j dj d j_in) ∙ rw place at kept)
          | inr there_not ↦
              let earlier : m < at = omega (arith, m_lt, there_not) in
              let apart : get_or order m 0 ≢ j = λ e. is_order.once m at earlier lt (e ∙ sym there) in
              get_or-set_other items j (get_or order m 0) item None apart ∙ done m d earlier ∙ kept
        ]

    -- When all joints have their items, these are the items that the rows determine.
    pub filled_all : (items : List (Option Value)) → length items ≡ length net.joints → AreFilledBefore net rows order (length order) items → IsFilled net rows items
    filled_all items n done = record {
      one_each = n;
      determined = λ j d lt.
          let place = place_of net order is_order j lt in
          rw place.2 at (done place.0 d place.1);
    }

    same_up_to : (xs ys : List (Option Value)) → IsFilled net rows xs → IsFilled net rows ys → (n m : ℕ) → m < n → m < length order → get_or xs (get_or order m 0) None ≡ get_or ys (get_or order m 0) None
    same_up_to xs ys fx fy zero m lt m_in = absurd (omega arith)
    same_up_to xs ys fx fy (suc n) m lt m_in =
        let j : ℕ = get_or order m 0 in
        let d : Joint = no_joint in
        let j_in = place_in net order is_order m m_in in
        fx.determined j d j_in
        ∙ item_same j d j_in xs ys fx.one_each fy.one_each (λ k e k_in feeds.
        let earlier = fed_before net order is_order m d m_in k e k_in feeds in
        rw earlier.2 at (same_up_to xs ys fx fy n earlier.0 (omega (arith, earlier.1)) (omega (arith, earlier.1, m_in))))
        ∙ sym (fy.determined j d j_in)

    -- The rows determine one list of items.
    pub filled_one : (xs ys : List (Option Value)) → IsFilled net rows xs → IsFilled net rows ys → xs ≡ ys
    filled_one xs ys fx fy =
        same_lists xs ys (fx.one_each ∙ sym fy.one_each) (λ j d lt.
        let place = place_of net order is_order j (omega (arith, fx.one_each, lt)) in
        let here = rw place.2 at (same_up_to xs ys fx fy (length order) place.0 place.1 place.1) in
        rw (get_or_default xs j None d lt, get_or_default ys j None d (omega (arith, fx.one_each, fy.one_each, lt))) at here)
