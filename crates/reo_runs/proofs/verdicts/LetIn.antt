-- Where rows fit together, each joint that flows has an item.
use Rattle.std.proofs.Common.{◌≡◌, ◌∙◌, inl, inr, refl, sym, ap, ℕ, zero, suc, ◌<◌, Bool, true, false, cond, List, [], ◌∷◌, length, get_or, Option, Some, None, IsSome, arith}
use Rattle.std.specs.Prelude.{◌||◌}
use Rattle.std.specs.Option.{option_and_then}
use Rattle.reo_values.specs.declared.value.Value.{Value}
use Rattle.reo_net_base.specs.declared.mark.Mark.{Mark}
use Rattle.reo_net_base.specs.declared.mark.Mark.TheVariants.{F, G, R, J}
use Rattle.reo_net_base.specs.declared.joint.End.{End}
use Rattle.reo_net_base.specs.declared.joint.Joint.{Joint}
use Rattle.reo_net_base.specs.Marks.{is_flow}
use Rattle.reo_net_base.specs.Behaviour.{Behaviour, IsEndOf}
use Rattle.reo_net_base.specs.Lawful.{GivesAt}
use Rattle.reo_net_base.specs.Net.{Net, no_side, all_sides, behaviour_at, end_of, end_eq, is_at, row_at, side_at, mark_at}
use Rattle.reo_net_base.specs.Colouring.{taken_at, given_at, item_given, lets_in, RowsFit, IsFilled}
use Rattle.reo_net_base.specs.Wired.{IsWired, IsOrder, IsEnd}
use Rattle.reo_net_base.proofs.Marks.{giver_flows}
use Rattle.reo_net_laws.proofs.Items.{end_is, along_order, end_same}
use Rattle.reo_runs.proofs.Sides.{row_below, side_in_range, row_in_table, row_is, same_side_at, gives_at}
use Rattle.reo_checker.specs.Faults.{ItemFails, IsItemFault}
use Rattle.reo_runs.specs.verdicts.Laws.{RefusedItemsAreNotLetIn}

-- The giver's row gives an item at a joint, and the taker's row does not let it in.
record IsOut (net : Net) (rows : List ℕ) (items : List (Option Value)) (joint : Joint) (item : Value) : Type 0 where
  flows : mark_at net rows joint.giver ≡ F
  given : given_at net rows items joint.giver ≡ Some item
  out : lets_in net rows joint.taker item ≡ false

-- There is an item.
abbrev HasOne : Option Value → Type 0
HasOne o = (x : Value) × (o ≡ Some x)

one_of : (o : Option Value) → IsSome o → HasOne o
one_of None h = absurd (cc)
one_of (Some x) h = (x, refl)

ap_one : {A : Type 0} (f : A → Option Value) (a b : A) → a ≡ b → HasOne (f a) → HasOne (f b)
ap_one f a b same has = (has.0, ap f (sym same) ∙ has.1)

abbrev or_bool : Bool → Bool → Bool
or_bool x y = x || y

-- An item that is given there flows.
given_flows : (m : Mark) (g : Option Value) (x : Value) → Some x ≡ cond (is_flow m) g None → (m ≡ F) × (g ≡ Some x)
given_flows F g x h = (refl, sym h)
given_flows G g x h = cc
given_flows R g x h = cc
given_flows J g x h = cc

-- An item comes in at an end to which a joint goes, where each joint that goes there has one.
taken_some : (joints : List Joint) (items : List (Option Value)) (e : End) → length items ≡ length joints
    → ((m : ℕ) (d : Joint) → m < length joints → (get_or joints m d).taker ≡ e → HasOne (get_or items m None))
    → (k : ℕ) → k < length joints → ((d : Joint) → (get_or joints k d).taker ≡ e) → HasOne (taken_at joints items e)
taken_some [] items e n has k lt is = absurd (omega arith)
taken_some (j ∷ js) [] e n has k lt is = absurd (omega arith)
taken_some (j ∷ js) (x ∷ xs) e n has zero lt is =
    ap_one (λ (t : Bool). cond t x (taken_at js xs e)) true (end_eq j.taker e) (sym (end_same j.taker e (is j))) (has zero j (omega arith) (is j))
taken_some (j ∷ js) (x ∷ xs) e n has (suc k) lt is =
    elim (end_eq j.taker e) as (λ t. end_eq j.taker e ≡ t → HasOne (cond t x (taken_at js xs e))) [
      | true ↦ λ same. has zero j (omega arith) (end_is j.taker e same)
      | false ↦ λ other. taken_some js xs e (omega arith) (λ m d m_lt at. has (suc m) d (omega arith) at) k (omega arith) is
    ] refl

module _ (net : Net) (wired : IsWired net) where
  -- The joint at an end that takes in goes to it.
  goes_there : (e : End) → (behaviour_at net.primitives e.primitive).takes_in e.end ≡ true → (k : ℕ) (d : Joint) → k < length net.joints → is_at e (get_or net.joints k d) ≡ true → (get_or net.joints k d).taker ≡ e
  goes_there e takes k d lt at =
      elim (end_eq (get_or net.joints k d).giver e) as (λ t. end_eq (get_or net.joints k d).giver e ≡ t → or_bool t (end_eq (get_or net.joints k d).taker e) ≡ true → (get_or net.joints k d).taker ≡ e) [
        | true ↦ λ from _.
            let is : (get_or net.joints k d).giver ≡ e = end_is _ e from in
            let gives : (behaviour_at net.primitives (get_or net.joints k d).giver.primitive).takes_in (get_or net.joints k d).giver.end ≡ false = wired.gives k d lt in
            let same : (behaviour_at net.primitives (get_or net.joints k d).giver.primitive).takes_in (get_or net.joints k d).giver.end ≡ (behaviour_at net.primitives e.primitive).takes_in e.end =
            ap (λ (z : End). (behaviour_at net.primitives z.primitive).takes_in z.end) is in
            absurd (cc)
        | false ↦ λ other to. end_is _ e to
      ] refl at

  module _ (rows : List ℕ) (items : List (Option Value)) where
    -- The mark of an end beside another, by the row of their side.
    mark_beside : (e : End) (from : ℕ) → IsEndOf (behaviour_at net.primitives e.primitive) ((behaviour_at net.primitives e.primitive).side_of e.end) from
        → mark_at net rows (end_of e.primitive from) ≡ (behaviour_at net.primitives e.primitive).mark ((behaviour_at net.primitives e.primitive).side_of e.end) (row_at net rows e) from
    unfolding mark_at
    mark_beside e from is =
        let b : Behaviour = behaviour_at net.primitives e.primitive in
        let row : row_at net rows (end_of e.primitive from) ≡ row_at net rows e =
        row_is net rows (end_of e.primitive from) ∙ ap (λ (s : ℕ). get_or rows s 0) (same_side_at net e from is) ∙ sym (row_is net rows e) in
        λ i. b.mark (is.1 i) (row i) from

    -- What gives with flow gives an item, where each end of its side that takes in with flow has one.
    given_has : (e : End) → IsEnd net.primitives e → GivesAt (behaviour_at net.primitives e.primitive) ((behaviour_at net.primitives e.primitive).side_of e.end) (row_at net rows e) e.end
        → ((from : ℕ) → IsEndOf (behaviour_at net.primitives e.primitive) ((behaviour_at net.primitives e.primitive).side_of e.end) from → (behaviour_at net.primitives e.primitive).takes_in from ≡ true
        → (behaviour_at net.primitives e.primitive).mark ((behaviour_at net.primitives e.primitive).side_of e.end) (row_at net rows e) from ≡ F → HasOne (taken_at net.joints items (end_of e.primitive from)))
        → HasOne (given_at net rows items e)
    unfolding given_at
    given_has e is gives taken =
        let b : Behaviour = behaviour_at net.primitives e.primitive in
        let side : ℕ = b.side_of e.end in
        let row : ℕ = row_at net rows e in
        let lawful = wired.lawful e.primitive is.0 in
        elim (b.from side row e.end) as (λ o. b.from side row e.end ≡ o → HasOne (b.given side row e.end (option_and_then (λ from. taken_at net.joints items (end_of e.primitive from)) o))) [
          | None ↦ λ none. one_of _ (lawful.given_alone side row e.end gives none)
          | Some from ↦ λ some.
              let has = taken from (lawful.from_end side row e.end from gives some) (lawful.from_takes side row e.end from gives some) (lawful.from_flows side row e.end from gives some) in
              ap_one (b.given side row e.end) (Some has.0) (taken_at net.joints items (end_of e.primitive from)) (sym has.1) (one_of _ (lawful.given_for side row e.end from has.0 gives some))
        ] refl

    module _ (order : List ℕ) (is_order : IsOrder net order) (fit : RowsFit net rows) (filled : IsFilled net rows items) where
      -- A joint has an item where it flows.
      abbrev Flowing : ℕ → Type 0
      Flowing j = (d : Joint) → mark_at net rows (get_or net.joints j d).giver ≡ F → HasOne (get_or items j None)

      item_of : (j : ℕ) (d : Joint) → j < length net.joints → mark_at net rows (get_or net.joints j d).giver ≡ F → HasOne (given_at net rows items (get_or net.joints j d).giver) → HasOne (get_or items j None)
      unfolding item_given
      item_of j d lt flows has =
          (has.0, filled.determined j d lt ∙ ap (λ (m : Mark). cond (is_flow m) (given_at net rows items (get_or net.joints j d).giver) None) flows ∙ has.1)

      stands : (j : ℕ) (d : Joint) → j < length net.joints → (x : Value) → get_or items j None ≡ Some x → (mark_at net rows (get_or net.joints j d).giver ≡ F) × (given_at net rows items (get_or net.joints j d).giver ≡ Some x)
      unfolding item_given
      stands j d lt x is = given_flows _ _ x (sym is ∙ filled.determined j d lt)

      flowing : (j : ℕ) → j < length net.joints → Flowing j
      flowing = along_order net order is_order Flowing (λ j lt fed d flows.
          let giver : End = (get_or net.joints j d).giver in
          let e_in = wired.givers j d lt in
          let below = row_in_table net wired giver e_in rows no_side (row_below (all_sides net.primitives) rows fit.in_tables (side_at net giver) no_side (side_in_range net wired giver e_in)) in
          let gives = gives_at net wired giver e_in rows (wired.gives j d lt) below flows in
          item_of j d lt flows (given_has giver e_in gives (λ from from_in takes from_flows.
          let e : End = end_of giver.primitive from in
          let joined = wired.each_end giver.primitive from e_in.0 from_in.0 in
          taken_some net.joints items e filled.one_each (λ m at m_lt to.
          fed m d at m_lt (ap (side_at net) to ∙ same_side_at net giver from from_in) at
          (giver_flows _ _ (fit.matched m at m_lt) (ap (λ (z : End). mark_at net rows z) to ∙ mark_beside giver from from_in ∙ from_flows)))
          joined.joint joined.in_range (λ at. goes_there e takes joined.joint at joined.in_range (joined.here at)))))

      -- An item that does not fit is one that is not let in.
      fails_let_in : (j : ℕ) (d : Joint) → IsItemFault net rows items j → (item : Value) × (get_or items j None ≡ Some item) × IsOut net rows items (get_or net.joints j d) item
      fails_let_in j d fault = by (get_or items j None) refl (fault.fails d)
        where
          by : (o : Option Value) → get_or items j None ≡ o → ItemFails net rows items (get_or net.joints j d) o → (item : Value) × (o ≡ Some item) × IsOut net rows items (get_or net.joints j d) item
          by None is flows = let has = flowing j fault.in_range d flows in let none : None ≡ Some has.0 = sym is ∙ has.1 in absurd (cc)
          by (Some x) is fails =
              let there = stands j d fault.in_range x is in
              elim fails [
                | inl dry ↦ absurd (dry there.0)
                | inr others ↦ elim others [ inl other ↦ absurd (other there.1) | inr out ↦ (x, refl, record { flows = there.0; given = there.1; out = out }) ]
              ]

-- The item at which what a line says is wrong is one that is not let in.
pub not_let_in : RefusedItemsAreNotLetIn
not_let_in net entries j d ordered (rows, items, said, fit, filled, fault) =
    let refused = fails_let_in net ordered.wired rows items ordered.order ordered.is_order fit filled j d fault in
    record { rows = rows; items = items; item = refused.0; said = said; filled = filled; stands = refused.1; flows = refused.2.flows; given = refused.2.given; out = refused.2.out }
