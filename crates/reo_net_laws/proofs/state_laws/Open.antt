-- Rows that let every item in have items.
use Rattle.std.proofs.Common.{◌≡◌, inl, inr, ℕ, zero, suc, ◌<◌, ◌≤◌, List, Option, None, Some, Bool, true, false, length, get_or, set, refl, ap, sym, ◌∙◌, subst, arith, get_or-set_same, get_or-set_other}
use Rattle.std.specs.Prelude.{IsSome}
use Rattle.std.specs.Option.{option_and_then}
use Rattle.std.proofs.lemmas.List.{get_or_default, length-map, length-set}
use Rattle.reo_values.specs.declared.value.Value.{Value}
use Rattle.reo_net_base.specs.declared.mark.Mark.{Mark}
use Rattle.reo_net_base.specs.declared.mark.Mark.TheVariants.{F, G, R, J}
use Rattle.reo_net_base.specs.declared.joint.End.{End}
use Rattle.reo_net_base.specs.declared.joint.Joint.{Joint}
use Rattle.reo_net_base.specs.Marks.{marks_match}
use Rattle.reo_net_base.specs.Behaviour.{Behaviour}
use Rattle.reo_net_base.specs.Lawful.{GivesAt}
use Rattle.reo_net_base.specs.Net.{Net, behaviour_at, end_of, side_at, side_of_end, row_at, mark_at}
use Rattle.reo_net_base.specs.Colouring.{taken_at, given_at, lets_in, ItemFits}
use Rattle.reo_net_base.specs.Wired.{IsWired, IsEnd, IsOrder}
use Rattle.reo_net_laws.specs.Parts.{IsClosed, IsAssignment, is_joint_inside}
use Rattle.reo_net_laws.specs.JamRows.{no_items}
use Rattle.reo_net_laws.proofs.Sides.{side_at_place, row_is, same_side_at, side_in_range, row_in_table, gives_at}
use Rattle.reo_net_laws.proofs.Items.{given_fed, taken_one, some_item}
use Rattle.reo_net_laws.proofs.Orders.{no_joint, Feeds, place_in, place_of, fed_before}
use Rattle.reo_net_laws.proofs.Assignments.{fits_same}
use Rattle.reo_net_laws.proofs.Joined.{ends_joined}
use Rattle.reo_net_laws.proofs.Search.{flow_or, eq_or}
use Rattle.reo_net_laws.specs.state_laws.States.{IsOpen, AreFitting, OpenPartsNeedNoItems}

-- What flows into a taker flows out of the giver.
giver_flows : (a : Mark) → marks_match a F ≡ true → a ≡ F
giver_flows F h = refl
giver_flows G h = cc
giver_flows R h = cc
giver_flows J h = cc

module _ (net : Net) (wired : IsWired net) (rows : List ℕ) (items : List (Option Value)) (one_item : length items ≡ length net.joints) where
  -- Where something flows, an item is given, if items are at the joints that feed it.
  given_some : (e : End) (e_in : IsEnd net.primitives e) (gives : GivesAt (behaviour_at net.primitives e.primitive) ((behaviour_at net.primitives e.primitive).side_of e.end) (row_at net rows e) e.end)
      → ((k : ℕ) (d : Joint) → k < length net.joints → side_at net (get_or net.joints k d).taker ≡ side_at net e → mark_at net rows (get_or net.joints k d).taker ≡ F → IsSome (get_or items k None))
      → IsSome (given_at net rows items e)
  unfolding given_at mark_at
  given_some e e_in gives fed =
      let b : Behaviour = behaviour_at net.primitives e.primitive in
      let side : ℕ = b.side_of e.end in
      let row : ℕ = row_at net rows e in
      let lawful = wired.lawful e.primitive e_in.0 in
      elim (b.from side row e.end) as (λ o. b.from side row e.end ≡ o → IsSome (b.given side row e.end (option_and_then (λ from. taken_at net.joints items (end_of e.primitive from)) o))) [
        | None ↦ λ none. lawful.given_alone side row e.end gives none
        | Some from ↦ λ some.
            let is_end = lawful.from_end side row e.end from gives some in
            let joined = ends_joined net wired in
            let source : End = end_of e.primitive from in
            let found = joined.taker_of source (e_in.0, is_end.0) (lawful.from_takes side row e.end from gives some) in
            let one = taken_one net.joints items source found.0 no_joint one_item found.1 (found.2 no_joint) (λ k z k_in k_here. joined.one_taker k found.0 z k_in found.1 (k_here ∙ sym (found.2 z))) in
            let here : side_at net source ≡ side_at net e = same_side_at net e from is_end in
            let same_row : row_at net rows source ≡ row = row_is net rows source ∙ ap (λ (k : ℕ). get_or rows k 0) here ∙ sym (row_is net rows e) in
            let flows : b.mark (b.side_of from) (row_at net rows source) from ≡ F =
            (λ i. b.mark (is_end.1 i) (same_row i) from) ∙ lawful.from_flows side row e.end from gives some in
            let there = fed found.0 no_joint found.1 (ap (side_at net) (found.2 no_joint) ∙ here) (subst (λ (x : End). (behaviour_at net.primitives x.primitive).mark ((behaviour_at net.primitives x.primitive).side_of x.end) (row_at net rows x) x.end ≡ F) (sym (found.2 no_joint)) flows) in
            let item = some_item (get_or items found.0 None) there in
            subst (λ (o : Option Value). IsSome (b.given side row e.end o)) (sym (one ∙ item.1)) (lawful.given_for side row e.end from item.0 gives some)
      ] refl

module _ (net : Net) (wired : IsWired net) (order : List ℕ) (is_order : IsOrder net order) (inside : ℕ → Bool) (closed : IsClosed net inside) (lets : IsOpen net inside)
    (rows : List ℕ) (fit : AreFitting net inside rows) where
  -- A joint of the set.
  abbrev IsHere : ℕ → Type 0
  IsHere j = is_joint_inside net inside (get_or net.joints j no_joint) ≡ true

  below : (j : ℕ) → j < length net.joints → IsHere j
      → row_at net rows (get_or net.joints j no_joint).giver < (behaviour_at net.primitives (get_or net.joints j no_joint).giver.primitive).rows ((behaviour_at net.primitives (get_or net.joints j no_joint).giver.primitive).side_of (get_or net.joints j no_joint).giver.end)
  below j lt h =
      let giver : End = (get_or net.joints j no_joint).giver in
      let e_in = wired.givers j no_joint lt in
      row_in_table net wired giver e_in rows (side_of_end net giver) (fit.in_tables (side_at net giver) (side_of_end net giver) (side_in_range net wired giver e_in) h)

  -- Whatever flows there is let in.
  let_in : (j : ℕ) → j < length net.joints → IsHere j → (item : Value) → lets_in net rows (get_or net.joints j no_joint).taker item ≡ true
  unfolding lets_in
  let_in j lt h item =
      let taker : End = (get_or net.joints j no_joint).taker in
      let e_in = wired.takers j no_joint lt in
      let b : Behaviour = behaviour_at net.primitives taker.primitive in
      let there : inside (side_at net taker) ≡ true = sym (closed.along j no_joint lt) ∙ h in
      lets taker.primitive (b.side_of taker.end) (row_at net rows taker) taker.end item e_in.0 ((wired.lawful taker.primitive e_in.0).sides_in taker.end e_in.1)
      (ap inside (sym (side_at_place net taker)) ∙ there)
      (row_in_table net wired taker e_in rows (side_of_end net taker) (fit.in_tables (side_at net taker) (side_of_end net taker) (side_in_range net wired taker e_in) there))
      (e_in.1, refl) (wired.takes j no_joint lt)

  -- Items that fit at the joints of the set among the first n places of the order.
  record IsFilledTo (n : ℕ) (items : List (Option Value)) : Type 0 where
    pub one_each : length items ≡ length net.joints
    pub fits : (m : ℕ) → m < n → IsHere (get_or order m 0) → ItemFits net rows items (get_or net.joints (get_or order m 0) no_joint) (get_or items (get_or order m 0) None)

  -- An item that fits where its joint flows is there.
  fits_some : (items : List (Option Value)) (j : Joint) (o : Option Value) → ItemFits net rows items j o → mark_at net rows j.giver ≡ F → IsSome o
  fits_some items j None fits flows = absurd (fits flows)
  fits_some items j (Some item) fits flows = refl

  -- One place more.
  module _ (n : ℕ) (n_in : n < length order) (items : List (Option Value)) (filled : IsFilledTo n items) where
    abbrev here : ℕ
    here = get_or order n 0

    here_in : here < length net.joints
    here_in = place_in net order is_order n n_in

    -- A joint of the set that feeds one of the set stands before it, and in the set.
    fed_here : (m : ℕ) → m < length order → IsHere (get_or order m 0) → (k : ℕ) (e : Joint) → k < length net.joints → Feeds net (get_or net.joints k e) (get_or net.joints (get_or order m 0) no_joint) → IsHere k
    fed_here m m_in h k e k_in feeds =
        let e_is : get_or net.joints k e ≡ get_or net.joints k no_joint = get_or_default net.joints k e no_joint k_in in
        closed.along k no_joint k_in ∙ ap (λ (x : Joint). inside (side_at net x.taker)) (sym e_is) ∙ ap inside feeds ∙ h

    stays : (o : Option Value) (m : ℕ) → m ≤ n → IsHere (get_or order m 0) → mark_at net rows (get_or net.joints (get_or order m 0) no_joint).giver ≡ F
        → given_at net rows (set items here o) (get_or net.joints (get_or order m 0) no_joint).giver ≡ given_at net rows items (get_or net.joints (get_or order m 0) no_joint).giver
    stays o m le h =
        let m_in : m < length order = omega (arith, le, n_in) in
        let range = place_in net order is_order m m_in in
        given_fed net wired rows (set items here o) items (get_or order m 0) no_joint range (length-set items here o ∙ filled.one_each) filled.one_each (below (get_or order m 0) range h) (λ k e k_in feeds.
        let earlier = fed_before net order is_order m no_joint m_in k e k_in feeds in
        get_or-set_other items here k o None (λ same. is_order.once earlier.0 n (omega (arith, earlier.1, le)) n_in (earlier.2 ∙ same)))

    with_item : (o : Option Value) → (IsHere here → ItemFits net rows items (get_or net.joints here no_joint) o) → IsFilledTo (suc n) (set items here o)
    with_item o fits = record {
      one_each = length-set items here o ∙ filled.one_each;
      fits = λ m lt h.
          let moved : (p : Option Value) → ItemFits net rows items (get_or net.joints (get_or order m 0) no_joint) p → ItemFits net rows (set items here o) (get_or net.joints (get_or order m 0) no_joint) p = λ p.
          fits_same net net rows rows items (set items here o) (get_or net.joints (get_or order m 0) no_joint) p refl (stays o m (omega (arith, lt)) h) (λ item. refl) in
          elim (eq_or m n) [
            | inl same ↦
                rw (ap (λ (q : ℕ). get_or (set items here o) (get_or order q 0) None) same, get_or-set_same items here o None (omega (arith, here_in, filled.one_each)))
                (moved o (rw (ap (λ (q : ℕ). get_or net.joints (get_or order q 0) no_joint) same) (fits (rw same at h))))
            | inr other ↦
                let m_lt : m < n = omega (arith, lt, other) in
                rw (get_or-set_other items here (get_or order m 0) o None (is_order.once m n m_lt n_in)) (moved (get_or items (get_or order m 0) None) (filled.fits m m_lt h))
          ];
    }

    -- Where the joint is of the set and flows, an item is given.
    given_here : IsHere here → mark_at net rows (get_or net.joints here no_joint).giver ≡ F → IsSome (given_at net rows items (get_or net.joints here no_joint).giver)
    given_here h flows =
        let giver : End = (get_or net.joints here no_joint).giver in
        let e_in = wired.givers here no_joint here_in in
        given_some net wired rows items filled.one_each giver e_in (gives_at net wired giver e_in rows (wired.gives here no_joint here_in) (below here here_in h) flows) (λ k d k_in feeds taken.
        let k_here : IsHere k = fed_here n n_in h k d k_in feeds in
        let earlier = fed_before net order is_order n no_joint n_in k d k_in feeds in
        let joint : Joint = get_or net.joints k no_joint in
        let d_is : get_or net.joints k d ≡ joint = get_or_default net.joints k d no_joint k_in in
        let taker_flows : mark_at net rows joint.taker ≡ F = ap (λ (x : Joint). mark_at net rows x.taker) (sym d_is) ∙ taken in
        let flow : mark_at net rows joint.giver ≡ F =
        giver_flows (mark_at net rows joint.giver) (ap (marks_match (mark_at net rows joint.giver)) (sym taker_flows) ∙ fit.matched k no_joint k_in k_here) in
        let fits = filled.fits earlier.0 earlier.1 (subst IsHere (sym earlier.2) k_here) in
        fits_some items joint (get_or items k None) (rw earlier.2 at fits) flow)

    more : (new : List (Option Value)) × IsFilledTo (suc n) new
    more =
        let joint : Joint = get_or net.joints here no_joint in
        elim (is_joint_inside net inside joint) as (λ t. is_joint_inside net inside joint ≡ t → (new : List (Option Value)) × IsFilledTo (suc n) new) [
          | false ↦ λ out. (set items here None, with_item None (λ h. let wrong : false ≡ true = sym out ∙ h in cc))
          | true ↦ λ h. elim (flow_or (mark_at net rows joint.giver)) [
            | inl flows ↦
                let item = some_item (given_at net rows items joint.giver) (given_here h flows) in
                (set items here (Some item.0), with_item (Some item.0) (λ again. record { flows = flows; given = item.1; let_in = let_in here here_in h item.0 }))
            | inr not_flows ↦ (set items here None, with_item None (λ again. not_flows))
          ]
        ] refl

  filled : (n : ℕ) → n ≤ length order → (items : List (Option Value)) × IsFilledTo n items
  filled zero le = (no_items net, record { one_each = length-map {B = Option Value} net.joints (λ _. None); fits = λ m lt. absurd (omega arith) })
  filled (suc n) le = let before = filled n (omega arith) in more n (omega arith) before.0 before.1

  all_items : (items : List (Option Value)) × IsAssignment net inside rows items
  all_items =
      let found = filled (length order) (omega arith) in (
        found.0,
        record {
          one_row = fit.one_row;
          one_item = found.1.one_each;
          in_tables = fit.in_tables;
          matched = fit.matched;
          items_fit = λ j d lt h.
              let place = place_of net order is_order j lt in
              let d_is : get_or net.joints j d ≡ get_or net.joints j no_joint = get_or_default net.joints j d no_joint lt in
              let here : IsHere j = ap (is_joint_inside net inside) (sym d_is) ∙ h in
              let fits = found.1.fits place.0 place.1 (subst IsHere (sym place.2) here) in
              rw d_is (rw place.2 at fits);
        },
      )

pub open_items : OpenPartsNeedNoItems
open_items net wired order is_order inside closed lets rows fit = all_items net wired order is_order inside closed lets rows fit
