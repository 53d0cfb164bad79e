-- A right log exists where no colouring stands before.
use Rattle.std.proofs.Common.{◌≡◌, ◌⊎◌, inl, inr, ℕ, zero, suc, ◌+◌, ◌<◌, ◌≤◌, List, [], ◌∷◌, ◌++◌, true, Option, length, get_or, Contains, refl, ap, sym, ◌∙◌, subst, arith}
use Rattle.std.proofs.lemmas.List.{get_or_default}
use Rattle.std.proofs.lemmas.List.FromFn.{get_or-map-range_with_len}
use Rattle.std.proofs.lemmas.Bool.{cases_eq, lt-ltb, ltb-true, cases_lt}
use Rattle.reo_values.specs.declared.value.Value.{Value}
use Rattle.reo_net_base.specs.declared.joint.Joint.{Joint}
use Rattle.reo_net_base.specs.Net.{Net, all_sides, side_at}
use Rattle.reo_net_base.specs.Sides.{side_count, AreRowsOf}
use Rattle.reo_net_base.specs.Colouring.{IsColouring}
use Rattle.reo_net_base.specs.First.{positions}
use Rattle.reo_net_base.specs.Wired.{IsWired, IsOrder}
use Rattle.reo_net_laws.specs.Ends.{RowsDiffer}
use Rattle.reo_net_laws.specs.Parts.{IsAssignment, is_joint_inside}
use Rattle.reo_net_laws.proofs.Sides.{row_below, are_rows, side_in_range}
use Rattle.reo_joint_values.specs.declared.value.JointValue.{JointValue}
use Rattle.reo_joint_values.specs.declared.value.JointValue.TheVariants.{Jam}
use Rattle.reo_joint_values.specs.Values.{Choice, items_of, no_joint, giver_side, taker_side, AtSide}
use Rattle.reo_joint_values.specs.Fitting.{Fits}
use Rattle.reo_joint_values.specs.Chosen.{IsChosen, rows_of}
use Rattle.reo_joint_values.specs.Ties.{ChoicesAreAssignments}
use Rattle.reo_joint_values.proofs.Fitting.{fits_local}
use Rattle.reo_refute_base.specs.declared.line.LogLine.{LogLine}
use Rattle.reo_refute_base.specs.declared.line.LogLine.TheVariants.{At}
use Rattle.reo_refute_base.specs.Items.{Lists, numbered}
use Rattle.reo_refute_base.specs.Live.{values_of, all_live, live_at, HasSupport}
use Rattle.reo_refute_base.specs.Logs.{IsBranch, AreParts}
use Rattle.reo_refute_base.specs.Logs.AreParts.{done, part}
use Rattle.reo_refute_base.specs.Places.{place_at, IsAllowed, IsLive, AreAllowed, NoneBefore}
use Rattle.reo_refute_base.specs.laws.Singles.{IsSingle, LogsExist}
use Rattle.reo_refute_base.proofs.laws.Branches.{filter_has}
use Rattle.reo_refute_base.proofs.laws.Deciding.{places_decide}
use Rattle.reo_refute_base.proofs.laws.Growing.{first_below, filtered}
use Rattle.reo_refute_base.proofs.laws.Refuting.{everywhere, closed, all_among}
use Rattle.reo_refute_base.proofs.laws.Supporting.{branch_or_single}
use Rattle.reo_refute_base.proofs.laws.Telling.{live_places_are_told}

at_or : (net : Net) (side j : ℕ) → AtSide net j side ⊎ (AtSide net j side → ⊥)
at_or net side j =
    elim (cases_eq (giver_side net j) side) [
      | inl gives ↦ inl (inl gives)
      | inr other ↦ elim (cases_eq (taker_side net j) side) [
        | inl takes ↦ inl (inr takes)
        | inr none ↦ inr (λ at. elim at [ inl g ↦ other g | inr t ↦ none t ])
      ]
    ]

-- An assignment of all sides is a colouring.
coloured : (net : Net) → IsWired net → (rows : List ℕ) (items : List (Option Value)) → IsAssignment net (everywhere net) rows items → IsColouring net rows items
coloured net wired rows items is =
    let inside : (j : ℕ) (d : Joint) → j < length net.joints → is_joint_inside net (everywhere net) (get_or net.joints j d) ≡ true = λ j d lt.
    lt-ltb (side_at net (get_or net.joints j d).giver) (side_count net) (side_in_range net wired (get_or net.joints j d).giver (wired.givers j d lt)) in
    record {
      rows_fit = record {
        in_tables = are_rows (all_sides net.primitives) rows is.one_row (λ k d lt. is.in_tables k d lt (lt-ltb k (side_count net) lt));
        matched = λ j d lt. is.matched j d lt (inside j d lt);
      };
      one_each = is.one_item;
      items_fit = λ j d lt. is.items_fit j d lt (inside j d lt);
    }

module _ (net : Net) (wired : IsWired net) (order : List ℕ) (is_order : IsOrder net order) (differ : RowsDiffer) (choices : ChoicesAreAssignments)
    (turn : ℕ) (given : List ℕ) (are_given : AreRowsOf net given) (lists : Lists) (p : ℕ) (is_live : IsLive net turn given p)
    (single : IsSingle net lists (IsAllowed net turn given p) (all_live lists)) where
  value_for : (j : ℕ) → (j < length net.joints) ⊎ (length net.joints ≤ j) → JointValue
  value_for j (inl lt) = (single.one j lt).0
  value_for j (inr past) = Jam

  choice : Choice
  choice j = value_for j (cases_lt j (length net.joints))

  -- What is left at a joint is the one value.
  only : (j : ℕ) → j < length net.joints → (v : JointValue) → Contains (live_at lists single.now j) v → (t : (j < length net.joints) ⊎ (length net.joints ≤ j)) → v ≡ value_for j t
  unfolding value_for
  only j lt v has (inl in') = (single.one j in').2 v has
  only j lt v has (inr past) = absurd (omega (arith, lt, past))

  left : (j : ℕ) → j < length net.joints → (t : (j < length net.joints) ⊎ (length net.joints ≤ j)) → Contains (live_at lists single.now j) (value_for j t)
  unfolding value_for
  left j lt (inl in') = (single.one j in').1
  left j lt (inr past) = absurd (omega (arith, lt, past))

  chosen_left : (j : ℕ) → j < length net.joints → Contains (live_at lists single.now j) (choice j)
  unfolding choice
  chosen_left j lt = left j lt (cases_lt j (length net.joints))

  chosen_only : (j : ℕ) → j < length net.joints → (v : JointValue) → single.now j v ≡ true → v ≡ choice j
  unfolding choice
  chosen_only j lt v h = only j lt v (filter_has (single.now j) (values_of lists j) v (all_among lists j v (single.within j v h)) h) (cases_lt j (length net.joints))

  abbrev Found : ℕ → Type 0
  Found side = ((k : ℕ) × (k < length net.joints) × AtSide net k side) ⊎ ((k : ℕ) → k < length net.joints → AtSide net k side → ⊥)

  found : (side : ℕ) → Found side
  found side = first_below (length net.joints) (λ k. AtSide net k side) (λ k. AtSide net k side → ⊥) (λ k lt. at_or net side k)

  support_at : (side : ℕ) (f : (k : ℕ) × (k < length net.joints) × AtSide net k side) → HasSupport net (numbered lists) (IsAllowed net turn given p) single.now side f.0 (choice f.0)
  support_at side f = single.supported f.0 (choice f.0) side f.1 (chosen_left f.0 f.1) f.2

  row_for : (side : ℕ) → Found side → ℕ
  row_for side (inl f) = (support_at side f).used.row
  row_for side (inr none) = get_or given side 0

  rows : ℕ → ℕ
  rows side = row_for side (found side)

  fits_for : (side : ℕ) → side < side_count net → (f : Found side) → Fits net (numbered lists) choice side (row_for side f)
  unfolding row_for
  fits_for side lt (inl f) =
      let u = (support_at side f).used in
      fits_local net wired (numbered lists) u.choice choice side u.row (λ j j_in at. chosen_only j j_in (u.choice j) (u.from j j_in at)) u.fits
  fits_for side lt (inr none) = record {
    in_table = λ d. row_below (all_sides net.primitives) given are_given side d lt;
    gives = λ j j_in here. absurd (none j j_in (inl here));
    takes = λ j j_in here. absurd (none j j_in (inr here));
  }

  -- At a side without a joint the given row is allowed.
  allowed_for : (side : ℕ) → side < side_count net → (f : Found side) → IsAllowed net turn given p side (row_for side f)
  unfolding row_for
  allowed_for side lt (inl f) = (support_at side f).allowed_row
  allowed_for side lt (inr none) = record {
    in_table = λ d. row_below (all_sides net.primitives) given are_given side d lt;
    before = λ q q_lt is. refl;
    smaller = λ is.
        let mine = subst (λ (s : ℕ). IsAllowed net turn given p s is_live.row) is is_live.allowed in
        let same : is_live.row ≡ get_or given side 0 = (differ net wired side is_live.row (get_or given side 0) lt mine.in_table (λ d. row_below (all_sides net.primitives) given are_given side d lt)).0 (record {
          givers = λ j d j_in here. absurd (none j j_in (inl (nearby j d j_in here)));
          takers = λ j d j_in here. absurd (none j j_in (inr (beside j d j_in here)));
        }) in
        let less = mine.smaller is in
        absurd (omega (arith, subst (λ (r : ℕ). (place_at net turn p).number r < (place_at net turn p).number (get_or given side 0)) same less));
  }
    where
      nearby : (j : ℕ) (d : Joint) → j < length net.joints → side_at net (get_or net.joints j d).giver ≡ side → giver_side net j ≡ side
      nearby j d lt here = ap (λ (x : Joint). side_at net x.giver) (get_or_default net.joints j no_joint d lt) ∙ here

      beside : (j : ℕ) (d : Joint) → j < length net.joints → side_at net (get_or net.joints j d).taker ≡ side → taker_side net j ≡ side
      beside j d lt here = ap (λ (x : Joint). side_at net x.taker) (get_or_default net.joints j no_joint d lt) ∙ here

  is_chosen : IsChosen net (numbered lists) (everywhere net) (all_live lists) rows choice
  unfolding rows
  is_chosen = record {
    fits = λ side h. fits_for side (ltb-true side (side_count net) h) (found side);
    from = λ side h j lt at. single.within j (choice j) (filtered (single.now j) (values_of lists j) (choice j) (chosen_left j lt));
  }

  are_allowed : AreAllowed net turn given p (rows_of net rows)
  unfolding rows
  are_allowed side lt = subst (IsAllowed net turn given p side) (sym (get_or-map-range_with_len rows 0 (side_count net) side side 0 lt (omega arith))) (allowed_for side lt (found side))

  pub wrong : NoneBefore net turn given → ⊥
  wrong none =
      let is = choices net wired order is_order (numbered lists) (everywhere net) (all_live lists) (closed net wired) rows choice is_chosen in
      (places_decide net turn given).0 none p is_live (rows_of net rows) (items_of net (numbered lists) choice) (coloured net wired (rows_of net rows) (items_of net (numbered lists) choice) is) are_allowed

widened : (net : Net) (turn : ℕ) (given : List ℕ) (lists : Lists) (from next : ℕ) (log : List LogLine) → AreParts net turn given lists next log → next ≡ from + 1 → (IsLive net turn given from → ⊥) → AreParts net turn given lists from log
widened net turn given lists from next log (done n none) is dead =
    done from (λ p le live. elim (cases_eq p from) [ inl same ↦ dead (subst (IsLive net turn given) same live) | inr other ↦ none p (omega (arith, le, other, is)) live ])
widened net turn given lists from next log (part n p branch rest first is_branch parts) is dead =
    part from p branch rest (record {
      from_on = omega (arith, first.from_on, is);
      is_live = first.is_live;
      none_before = λ q le lt live. elim (cases_eq q from) [ inl same ↦ dead (subst (IsLive net turn given) same live) | inr other ↦ first.none_before q (omega (arith, le, other, is)) lt live ];
    }) is_branch parts

parts_from : (net : Net) (turn : ℕ) (given : List ℕ) (lists : Lists) → ((p : ℕ) → IsLive net turn given p ⊎ (IsLive net turn given p → ⊥))
    → ((p : ℕ) → IsLive net turn given p → (branch : List LogLine) × IsBranch net lists (IsAllowed net turn given p) (all_live lists) branch)
    → (n from : ℕ) → from + n ≡ length (positions net turn) → (log : List LogLine) × AreParts net turn given lists from log
parts_from net turn given lists tell each zero from is = ([], done from (λ p le live. absurd (omega (arith, live.in_range, le, is))))
parts_from net turn given lists tell each (suc n) from is =
    let rest = parts_from net turn given lists tell each n (from + 1) (omega (arith, is)) in
    elim (tell from) [
      | inl live ↦
          let b = each from live in
          (At from ∷ (b.0 ++ rest.0), part from from b.0 rest.0 (record { from_on = omega arith; is_live = live; none_before = λ q le lt other. absurd (omega (arith, le, lt)) }) b.1 rest.1)
      | inr dead ↦ (rest.0, widened net turn given lists from (from + 1) rest.0 rest.1 refl dead)
    ]

pub logs_exist : RowsDiffer → ChoicesAreAssignments → LogsExist
logs_exist differ choices net wired order is_order turn given are_given none lists are =
    let each : (p : ℕ) → IsLive net turn given p → (branch : List LogLine) × IsBranch net lists (IsAllowed net turn given p) (all_live lists) branch = λ p live.
    elim (branch_or_single net wired turn given lists p (all_live lists) (λ j v h. h)) [
      | inl b ↦ b
      | inr single ↦ absurd (wrong net wired order is_order differ choices turn given are_given lists p live single none)
    ] in
    let parts = parts_from net turn given lists (live_places_are_told net turn given) each (length (positions net turn)) 0 (omega arith) in
    (parts.0, record { lists = lists; item_lists = are; parts = parts.1 })
