-- Items that are put at the joints of a part, one after the other.
use Rattle.std.proofs.Common.{◌≡◌, ◌≢◌, ◌∙◌, ◌↔◌, inl, inr, ℕ, zero, suc, ◌+◌, ◌-◌, ◌<◌, ◌≤◌, Bool, true, false, List, [], ◌∷◌, ◌++◌, drop, length, get_or, refl, ap, sym, subst, arith}
use Rattle.std.proofs.lemmas.Bool.{cases_eq, cases_lt}
use Rattle.std.specs.List.{All}
use Rattle.std.specs.Prelude.{Contains, Option, Some, None, filter}
use Rattle.std.proofs.Math.Seq.{drop-cons}
use Rattle.std.proofs.lemmas.List.{drop_all, get_or_default, length-append}
use Rattle.std.proofs.lemmas.List.Elements.{All-filter, All-from_get_or, All-get_or, Contains-get_or, filter_passes}
use Rattle.reo_values.specs.declared.value.Value.{Value}
use Rattle.reo_net_base.specs.declared.mark.Mark.TheVariants.{F}
use Rattle.reo_net_base.specs.declared.joint.End.{End}
use Rattle.reo_net_base.specs.declared.joint.Joint.{Joint}
use Rattle.reo_net_base.specs.Behaviour.{Behaviour}
use Rattle.reo_net_base.specs.Colouring.{IsColouring, ItemFits, given_at}
use Rattle.reo_net_base.specs.Ends.{IsTaker}
use Rattle.reo_net_base.specs.Net.{Net, all_sides, behaviour_at, end_of, mark_at, row_at, side_at}
use Rattle.reo_net_base.specs.Wired.{IsWired}
use Rattle.reo_net_base.proofs.Marks.{mark_flows, mark_still}
use Rattle.reo_net_circuit.specs.found_ends.Ends.{AreEnds, joint_at}
use Rattle.reo_net_circuit.proofs.found_ends.EndLemmas.{taker_at}
use Rattle.reo_net_laws.specs.Ends.{mark_in, from_in}
use Rattle.reo_net_laws.proofs.Sides.{gives_at, row_in_table, row_below, side_in_range}
use Rattle.reo_net.proofs.colouring.ItemLemmas.{given_none, given_some, taken_by_ends}
use Rattle.reo_joint_values.specs.Standing.{Brings, FlowsAt, giver_of, no_joint}
use Rattle.reo_joint_values.specs.Many.{IsJointIn}
use Rattle.reo_joint_values.specs.InOrder.{AreInOrder, joints_in}
use Rattle.reo_net_laws.specs.Parts.{IsClosed}
use Rattle.reo_net_laws.proofs.Orders.{place_in}
use Rattle.reo_search_tables.specs.Orders.{AreJointsOf}
use Rattle.reo_search_tables.proofs.Sorted.{joints_of_set}
use Rattle.reo_flows.specs.flowing.Flowing.{AreFlowingOf, flows_by}
use Rattle.reo_flows.proofs.flowing.Passing.{end_from, next_from}
use Rattle.reo_flows.specs.stepping.Flowing.{GiverFlows}
use Rattle.reo_round.specs.Filling.{AreBlankOn, AreHeld, IsPartFilled, IsPut}

before_end : (xs ys : List ℕ) (m : ℕ) → m < length xs → get_or (xs ++ ys) m 0 ≡ get_or xs m 0
before_end [] ys m lt = absurd (omega arith)
before_end (x ∷ xs) ys zero lt = refl
before_end (x ∷ xs) ys (suc m) lt = before_end xs ys m (omega arith)

-- What the items of a colouring are, where a joint flows and where it does not.
fits_flow : (net : Net) (rows : List ℕ) (items : List (Option Value)) (j : Joint) (o : Option Value) → ItemFits net rows items j o → mark_at net rows j.giver ≡ F → o ≡ given_at net rows items j.giver
fits_flow net rows items j None h flows = absurd (h flows)
fits_flow net rows items j (Some item) h flows = sym h.given

fits_some : (net : Net) (rows : List ℕ) (items : List (Option Value)) (j : Joint) (o : Option Value) → ItemFits net rows items j o → mark_at net rows j.giver ≡ F → o ≢ None
fits_some net rows items j None h flows = absurd (h flows)
fits_some net rows items j (Some item) h flows = λ e. cc

fits_none : (net : Net) (rows : List ℕ) (items : List (Option Value)) (j : Joint) (o : Option Value) → ItemFits net rows items j o → mark_at net rows j.giver ≢ F → o ≡ None
fits_none net rows items j None h not = refl
fits_none net rows items j (Some item) h not = absurd (not h.flows)

-- The mark of the giver of a joint, whichever is read past the end.
pub giver_flows : (net : Net) (rows : List ℕ) (j : ℕ) → j < length net.joints → mark_at net rows (giver_of net j) ≡ F → GiverFlows net rows j
giver_flows net rows j lt flows d = ap (λ (x : Joint). mark_at net rows x.giver) (get_or_default net.joints j d no_joint lt) ∙ flows

-- The first so many joints have their items, and all others what they had; and exactly those that have one are noted.
pub record IsFilledTo (joints : List ℕ) (others : List (Option Value)) (n : ℕ) (old new : List (Option Value)) (noted : List ℕ) : Type 0 where
  pub count : length new ≡ length old
  pub here : (m : ℕ) → m < n → get_or new (get_or joints m 0) None ≡ get_or others (get_or joints m 0) None
  pub rest : (k : ℕ) → ((m : ℕ) → m < n → get_or joints m 0 ≢ k) → get_or new k None ≡ get_or old k None
  pub held : AreHeld new noted

module _ (net : Net) (wired : IsWired net) (rows : List ℕ) (others : List (Option Value)) (is : IsColouring net rows others) where
  -- The items of the colouring at a joint.
  pub others_given : (j : ℕ) → j < length net.joints → mark_at net rows (giver_of net j) ≡ F → get_or others j None ≡ given_at net rows others (giver_of net j)
  others_given j lt flows = fits_flow net rows others (get_or net.joints j no_joint) (get_or others j None) (is.items_fit j no_joint lt) flows

  pub others_some : (j : ℕ) → j < length net.joints → mark_at net rows (giver_of net j) ≡ F → get_or others j None ≢ None
  others_some j lt flows = fits_some net rows others (get_or net.joints j no_joint) (get_or others j None) (is.items_fit j no_joint lt) flows

  pub others_none : (j : ℕ) → j < length net.joints → (GiverFlows net rows j → ⊥) → get_or others j None ≡ None
  others_none j lt not = fits_none net rows others (get_or net.joints j no_joint) (get_or others j None) (is.items_fit j no_joint lt) (λ flows. not (giver_flows net rows j lt flows))

  -- A row by which an end flows is no jam row.
  plain_at : (e : End) → (e.primitive < length net.primitives) × (e.end < (behaviour_at net.primitives e.primitive).ends) → mark_at net rows e ≡ F → FlowsAt net e (row_at net rows e)
  unfolding mark_at mark_in
  plain_at e e_in flows =
      let b : Behaviour = behaviour_at net.primitives e.primitive in
      let side : ℕ = b.side_of e.end in
      let row : ℕ = row_at net rows e in
      let lawful = wired.lawful e.primitive e_in.0 in
      let below = row_in_table net wired e e_in rows (record { of = b; number = 0 }) (row_below (all_sides net.primitives) rows is.rows_fit.in_tables (side_at net e) (record { of = b; number = 0 }) (side_in_range net wired e e_in)) in
      record {
        plain = elim (cases_lt (row + 1) (b.rows side)) [
          | inl lt ↦ lt
          | inr le ↦ absurd (let jams = lawful.jam_row side row e.end (lawful.sides_in e.end e_in.1) (e_in.1, refl) (omega (arith, below, le)) in cc)
        ];
        flows = flows;
      }

  module _ (table : List (List ℕ)) (ends : AreEnds net table) (joints : List ℕ) (ordered : AreInOrder net joints) where
    -- What the giver of a joint gives by items that are the colouring's at the joints before it.
    pub given_before : (xs : List (Option Value)) → length xs ≡ length net.joints → (m : ℕ) → m < length joints
        → ((n : ℕ) → n < m → get_or xs (get_or joints n 0) None ≡ get_or others (get_or joints n 0) None)
        → mark_at net rows (giver_of net (get_or joints m 0)) ≡ F
        → given_at net rows xs (giver_of net (get_or joints m 0)) ≡ given_at net rows others (giver_of net (get_or joints m 0))
    unfolding from_in
    given_before xs count m m_in here flows =
        let j : ℕ = get_or joints m 0 in
        let j_in = ordered.in_range m m_in in
        let e : End = giver_of net j in
        let b : Behaviour = behaviour_at net.primitives e.primitive in
        let side : ℕ = b.side_of e.end in
        let row : ℕ = row_at net rows e in
        let e_in = wired.givers j no_joint j_in in
        let lawful = wired.lawful e.primitive e_in.0 in
        let below = row_in_table net wired e e_in rows (record { of = b; number = 0 }) (row_below (all_sides net.primitives) rows is.rows_fit.in_tables (side_at net e) (record { of = b; number = 0 }) (side_in_range net wired e e_in)) in
        let gives = gives_at net wired e e_in rows (wired.gives j no_joint j_in) below flows in
        elim (b.from side row e.end) as (λ o. b.from side row e.end ≡ o → given_at net rows xs e ≡ given_at net rows others e) [
          | None ↦ λ none. given_none net rows xs e none ∙ sym (given_none net rows others e none)
          | Some from ↦ λ some.
              let source : End = end_of e.primitive from in
              let taker : IsTaker net source = record { is_end = (e_in.0, (lawful.from_end side row e.end from gives some).0); takes = lawful.from_takes side row e.end from gives some } in
              let k : ℕ = joint_at table source in
              let k_in : k < length net.joints = ends.in_range source taker.is_end in
              let brings : Brings net e row k = record {
                flows = plain_at e e_in flows;
                in_range = k_in;
                from = from;
                decides = some;
                taker = ap (λ (x : End). x) (taker_at net wired table ends source no_joint taker);
              } in
              let place = ordered.brought m row k m_in brings in
              let same : get_or xs k None ≡ get_or others k None =
              subst (λ (n : ℕ). get_or xs n None ≡ get_or others n None) place.2 (here place.0 place.1) in
              given_some net rows xs e from some
              ∙ ap (b.given side row e.end) (taken_by_ends net wired table ends xs count source taker ∙ same ∙ sym (taken_by_ends net wired table ends others is.one_each source taker))
              ∙ sym (given_some net rows others e from some)
        ] refl

    module _ (inside : ℕ → Bool) (exact : (j : ℕ) → Contains joints j ↔ IsJointIn net inside j) where
      -- A joint that has no item yet.
      blank_yet : (n : ℕ) → n < length joints → (old new : List (Option Value)) (noted : List ℕ) → AreBlankOn net inside old → IsFilledTo joints others n old new noted → get_or new (get_or joints n 0) None ≡ None
      blank_yet n n_in old new noted blank far = far.rest (get_or joints n 0) (λ m lt. ordered.once m n lt n_in) ∙ blank (get_or joints n 0) ((exact (get_or joints n 0)).0 (Contains-get_or joints n 0 n_in))

      -- One joint more that flows.
      pub flowed_more : (n : ℕ) → n < length joints → (old new next : List (Option Value)) (noted more : List ℕ) → length old ≡ length net.joints → AreBlankOn net inside old → IsFilledTo joints others n old new noted
          → IsPut net rows (get_or joints n 0) new next noted more → mark_at net rows (giver_of net (get_or joints n 0)) ≡ F → IsFilledTo joints others (n + 1) old next more
      flowed_more n n_in old new next noted more count blank far put flows =
          let j : ℕ = get_or joints n 0 in
          let j_in = ordered.in_range n n_in in
          let item : get_or next j None ≡ get_or others j None =
          put.item no_joint ∙ given_before new (far.count ∙ count) n n_in far.here flows ∙ sym (others_given j j_in flows) in
          let some : get_or next j None ≢ None = λ e. others_some j j_in flows (sym item ∙ e) in
          let longer : length more ≡ length noted + 1 = ap (λ (xs : List ℕ). length xs) put.noted_is ∙ length-append noted (j ∷ []) in
          record {
            count = put.count ∙ far.count;
            here = λ m lt. elim (cases_eq m n) [
              | inl e ↦ subst (λ (k : ℕ). get_or next (get_or joints k 0) None ≡ get_or others (get_or joints k 0) None) (sym e) item
              | inr ne ↦ let earlier : m < n = omega (arith, lt, ne) in put.others (get_or joints m 0) (ordered.once m n earlier n_in) ∙ far.here m earlier
            ];
            rest = λ k h. put.others k (λ e. h n (omega arith) (sym e)) ∙ far.rest k (λ m lt. h m (omega arith));
            held = record {
              some = λ m lt. elim (cases_lt m (length noted)) [
                | inl before ↦
                    let at : get_or more m 0 ≡ get_or noted m 0 = ap (λ (xs : List ℕ). get_or xs m 0) put.noted_is ∙ before_end noted (j ∷ []) m before in
                    let was = far.held.some m before in
                    let apart : get_or noted m 0 ≢ j = λ e. was (ap (λ (k : ℕ). get_or new k None) e ∙ blank_yet n n_in old new noted blank far) in
                    λ none. was (sym (put.others (get_or noted m 0) apart) ∙ ap (λ (k : ℕ). get_or next k None) (sym at) ∙ none)
                | inr le ↦
                    let last : m ≡ length noted = omega (arith, lt, le, longer) in
                    let at : get_or more m 0 ≡ j = ap (λ (xs : List ℕ). get_or xs m 0) put.noted_is ∙ ap (λ (k : ℕ). get_or (noted ++ j ∷ []) k 0) last ∙ at_end noted j in
                    λ none. some (ap (λ (k : ℕ). get_or next k None) (sym at) ∙ none)
              ];
              each = λ k there. elim (cases_eq k j) [
                | inl e ↦ (length noted, omega (arith, longer), ap (λ (xs : List ℕ). get_or xs (length noted) 0) put.noted_is ∙ at_end noted j ∙ sym e)
                | inr ne ↦
                    let found = far.held.each k (λ none. there (put.others k ne ∙ none)) in
                    (found.0, omega (arith, longer, found.1), ap (λ (xs : List ℕ). get_or xs found.0 0) put.noted_is ∙ before_end noted (j ∷ []) found.0 found.1 ∙ found.2)
              ];
            };
          }
        where
          at_end : (xs : List ℕ) (x : ℕ) → get_or (xs ++ x ∷ []) (length xs) 0 ≡ x
          at_end [] x = refl
          at_end (y ∷ xs) x = at_end xs x

      -- One joint more that does not flow.
      pub still_more : (n : ℕ) → n < length joints → (old new : List (Option Value)) (noted : List ℕ) → AreBlankOn net inside old → IsFilledTo joints others n old new noted
          → mark_at net rows (giver_of net (get_or joints n 0)) ≢ F → IsFilledTo joints others (n + 1) old new noted
      still_more n n_in old new noted blank far not = record {
        count = far.count;
        here = λ m lt. elim (cases_eq m n) [
          | inl e ↦ subst (λ (k : ℕ). get_or new (get_or joints k 0) None ≡ get_or others (get_or joints k 0) None) (sym e)
              (blank_yet n n_in old new noted blank far ∙ sym (others_none (get_or joints n 0) (ordered.in_range n n_in) (λ flows. not (flows no_joint))))
          | inr ne ↦ far.here m (omega (arith, lt, ne))
        ];
        rest = λ k h. far.rest k (λ m lt. h m (omega arith));
        held = far.held;
      }

      -- All joints.
      pub filled_all : (n : ℕ) → n ≡ length joints → (old new : List (Option Value)) (noted : List ℕ) → IsFilledTo joints others n old new noted → IsPartFilled net inside others old new noted
      filled_all n last old new noted far = record {
        count = far.count;
        here = λ j h.
            let place = (exact j).1 h in
            let is : get_or joints place.0 0 ≡ j = get_or_default joints place.0 0 j place.1 ∙ place.2 in
            subst (λ (k : ℕ). get_or new k None ≡ get_or others k None) is (far.here place.0 (omega (arith, last, place.1)));
        others = λ k not. far.rest k (λ m lt e.
            let m_in : m < length joints = omega (arith, last, lt) in
            not (subst (IsJointIn net inside) e ((exact (get_or joints m 0)).0 (Contains-get_or joints m 0 m_in))));
        held = far.held;
      }

-- The items at the first n of the joints of a set that flow.
pub record IsFilledFar (net : Net) (inside : ℕ → Bool) (rows those : List ℕ) (n : ℕ) (others old new : List (Option Value)) (noted : List ℕ) : Type 0 where
  pub joints : List ℕ
  pub are : AreJointsOf net inside joints
  pub place : ℕ
  pub within : place ≤ length joints
  pub left : filter (flows_by net rows) (drop place joints) ≡ drop n those
  pub far : IsFilledTo joints others place old new noted

-- None so far.
pub far_none : (net : Net) → IsWired net → (inside : ℕ → Bool) → IsClosed net inside → (rows those : List ℕ) → AreFlowingOf net inside rows those → (others old : List (Option Value)) (noted : List ℕ) → AreHeld old noted
    → IsFilledFar net inside rows those 0 others old old noted
far_none net wired inside closed rows those of others old noted held = record {
  joints = joints_in net inside of.all;
  are = joints_of_set net wired of.all of.is_order inside closed;
  place = 0;
  within = omega arith;
  left = sym of.those;
  far = record { count = refl; here = λ m lt. absurd (omega arith); rest = λ k h. refl; held = held };
}

module _ (net : Net) (wired : IsWired net) (rows : List ℕ) (others : List (Option Value)) (is : IsColouring net rows others) (table : List (List ℕ)) (ends : AreEnds net table)
    (inside : ℕ → Bool) (those : List ℕ) (old : List (Option Value)) (size : length old ≡ length net.joints) (blank : AreBlankOn net inside old) where
  -- What does not flow is passed over.
  passed_over : (joints : List ℕ) (are : AreJointsOf net inside joints) (new : List (Option Value)) (noted : List ℕ) (n : ℕ) → n < length joints → flows_by net rows (get_or joints n 0) ≡ false
      → IsFilledTo joints others n old new noted → IsFilledTo joints others (n + 1) old new noted
  passed_over joints are new noted n lt not far =
      still_more net wired rows others is table ends joints are.in_order inside are.exact n lt old new noted blank far (mark_still (mark_at net rows (giver_of net (get_or joints n 0))) not)

  -- One more of them.
  pub far_more : (n : ℕ) → n < length those → (new next : List (Option Value)) (noted more : List ℕ) → IsFilledFar net inside rows those n others old new noted
      → IsPut net rows (get_or those n 0) new next noted more → IsFilledFar net inside rows those (n + 1) others old next more
  far_more n lt new next noted more so put =
      let x : ℕ = get_or those n 0 in
      let at = next_from (flows_by net rows) so.joints (λ (m : ℕ). IsFilledTo so.joints others m old new noted) (passed_over so.joints so.are new noted)
      (length so.joints - so.place) so.place (omega (arith, so.within)) x (drop (suc n) those) (so.left ∙ drop-cons those n 0 lt) so.far in
      let one_more : suc n ≡ n + 1 = omega arith in
      let here : IsPut net rows (get_or so.joints at.place 0) new next noted more = subst (λ (j : ℕ). IsPut net rows j new next noted more) (sym at.here) put in
      let flows = mark_flows (mark_at net rows (giver_of net (get_or so.joints at.place 0))) (ap (flows_by net rows) at.here ∙ at.passes) in
      record {
        joints = so.joints;
        are = so.are;
        place = at.place + 1;
        within = omega (arith, at.in_range);
        left = at.left ∙ ap (λ (k : ℕ). drop k those) one_more;
        far = flowed_more net wired rows others is table ends so.joints so.are.in_order inside so.are.exact at.place at.in_range old new next noted more size blank at.far here flows;
      }

  -- All of them.
  pub far_all : (n : ℕ) → n ≡ length those → (new : List (Option Value)) (noted : List ℕ) → IsFilledFar net inside rows those n others old new noted → IsPartFilled net inside others old new noted
  far_all n last new noted so =
      let end = end_from (flows_by net rows) so.joints (λ (m : ℕ). IsFilledTo so.joints others m old new noted) (passed_over so.joints so.are new noted)
      (length so.joints - so.place) so.place (omega (arith, so.within)) (so.left ∙ drop_all n those (omega (arith, last))) so.far in
      filled_all net wired rows others is table ends so.joints so.are.in_order inside so.are.exact (length so.joints) refl old new noted end

-- Each joint that is given flows.
module _ (net : Net) (inside : ℕ → Bool) (rows those : List ℕ) (of : AreFlowingOf net inside rows those) where
  passes : (m : ℕ) → m < length those → flows_by net rows (get_or those m 0) ≡ true
  passes m lt = All-get_or (λ (j : ℕ). flows_by net rows j ≡ true) those m 0 lt (subst (All (λ (j : ℕ). flows_by net rows j ≡ true)) (sym of.those) (filter_passes (flows_by net rows) (joints_in net inside of.all)))

  pub those_in : (m : ℕ) → m < length those → get_or those m 0 < length net.joints
  those_in m lt = All-get_or (λ (j : ℕ). j < length net.joints) those m 0 lt (subst (All (λ (j : ℕ). j < length net.joints)) (sym of.those)
      (All-filter (flows_by net rows) (λ (j : ℕ). j < length net.joints) (joints_in net inside of.all) (All-filter (λ (j : ℕ). inside (side_at net (giver_of net j))) (λ (j : ℕ). j < length net.joints) of.all (all_in))))
    where
      all_in : All (λ (j : ℕ). j < length net.joints) of.all
      all_in = All-from_get_or (λ (j : ℕ). j < length net.joints) of.all 0 (place_in net of.all of.is_order)

  pub those_flow : (m : ℕ) → m < length those → GiverFlows net rows (get_or those m 0)
  those_flow m lt = giver_flows net rows (get_or those m 0) (those_in m lt) (mark_flows (mark_at net rows (giver_of net (get_or those m 0))) (passes m lt))
