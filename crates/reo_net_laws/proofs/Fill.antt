-- Whether rows have items that make them a colouring.
use Rattle.std.proofs.Common.{◌≡◌, inl, inr, ℕ, zero, suc, ◌<◌, ◌≤◌, List, [], ◌∷◌, Option, None, Some, true, false, length, get_or, set, refl, ap, sym, ◌∙◌, arith, get_or-set_same, get_or-set_other}
use Rattle.std.proofs.lemmas.List.{get_or_default, length-map, length-set}
use Rattle.reo_values.specs.declared.value.Value.{Value}
use Rattle.reo_net_base.specs.declared.mark.Mark.TheVariants.{F}
use Rattle.reo_net_base.specs.declared.joint.End.{End}
use Rattle.reo_net_base.specs.declared.joint.Joint.{Joint}
use Rattle.reo_net_base.specs.Marks.{marks_match}
use Rattle.reo_net_base.specs.Net.{Net, Side, all_sides, no_side, row_count, behaviour_at, side_at, row_at, mark_at}
use Rattle.reo_net_base.specs.Colouring.{AreRows, JointMatches, given_at, lets_in, ItemFits, IsColouring}
use Rattle.reo_net_base.specs.Wired.{IsWired, IsOrder}
use Rattle.reo_net_laws.specs.JamRows.{no_items}
use Rattle.std.proofs.lemmas.Bool.{cases_lt}
use Rattle.reo_net_laws.proofs.Sides.{row_below, side_in_range, row_in_table}
use Rattle.reo_net_laws.proofs.Items.{fits_one, given_fed, along_order}
use Rattle.reo_net_laws.proofs.Orders.{no_joint, place_in, place_of, fed_before}
use Rattle.reo_net_laws.proofs.Assignments.{fits_same}
use Rattle.reo_net_laws.proofs.Search.{Decided, all_below, bool_or, flow_or, eq_or}

abbrev no_item : Option Value
no_item = None

-- An item that fits at a joint where it flows is given and let in.
not_given : (net : Net) (rows : List ℕ) (items : List (Option Value)) (j : Joint) (o : Option Value) → ItemFits net rows items j o → mark_at net rows j.giver ≡ F
    → ((item : Value) → given_at net rows items j.giver ≡ Some item → lets_in net rows j.taker item ≡ true → ⊥) → ⊥
not_given net rows items j None fits flows none = fits flows
not_given net rows items j (Some item) fits flows none = none item fits.given fits.let_in

given_or : (net : Net) (rows : List ℕ) (items : List (Option Value)) (j : Joint) → mark_at net rows j.giver ≡ F → (g : Option Value) → given_at net rows items j.giver ≡ g → Decided ((o : Option Value) × ItemFits net rows items j o)
given_or net rows items j flows None e = inr (λ found. not_given net rows items j found.0 found.1 flows (λ item given let_in. let wrong : no_item ≡ Some item = sym e ∙ given in cc))
given_or net rows items j flows (Some item) e =
    elim (lets_in net rows j.taker item) as (λ t. lets_in net rows j.taker item ≡ t → Decided ((o : Option Value) × ItemFits net rows items j o)) [
      | true ↦ λ let_in. inl (Some item, record { flows = flows; given = e; let_in = let_in })
      | false ↦ λ kept_out. inr (λ found. not_given net rows items j found.0 found.1 flows (λ other given let_in.
          let both : Some item ≡ Some other = sym e ∙ given in
          let same : item ≡ other = cc in
          let wrong : false ≡ true = sym kept_out ∙ ap (lets_in net rows j.taker) same ∙ let_in in
          cc))
    ] refl

fits_or : (net : Net) (rows : List ℕ) (items : List (Option Value)) (j : Joint) → Decided ((o : Option Value) × ItemFits net rows items j o)
fits_or net rows items j =
    elim (flow_or (mark_at net rows j.giver)) [
      | inl flows ↦ given_or net rows items j flows (given_at net rows items j.giver) refl
      | inr not_flows ↦ inl (None, not_flows)
    ]

-- Items that fit at the joints of the first n places of the order.
record IsFilledTo (net : Net) (rows order : List ℕ) (n : ℕ) (items : List (Option Value)) : Type 0 where
  pub one_each : length items ≡ length net.joints
  pub fits : (m : ℕ) (d : Joint) → m < n → ItemFits net rows items (get_or net.joints (get_or order m 0) d) (get_or items (get_or order m 0) None)

module _ (net : Net) (wired : IsWired net) (order : List ℕ) (is_order : IsOrder net order) (rows : List ℕ) (are : AreRows (all_sides net.primitives) rows) where
  below : (j : ℕ) (d : Joint) → j < length net.joints
      → row_at net rows (get_or net.joints j d).giver < (behaviour_at net.primitives (get_or net.joints j d).giver.primitive).rows ((behaviour_at net.primitives (get_or net.joints j d).giver.primitive).side_of (get_or net.joints j d).giver.end)
  below j d lt =
      let giver : End = (get_or net.joints j d).giver in
      let e_in = wired.givers j d lt in
      row_in_table net wired giver e_in rows no_side (row_below (all_sides net.primitives) rows are (side_at net giver) no_side (side_in_range net wired giver e_in))

  -- Items that fit at the first places are one there.
  one_to : (n : ℕ) (xs ys : List (Option Value)) → n ≤ length order → IsFilledTo net rows order n xs → IsFilledTo net rows order n ys → (m : ℕ) → m < n → get_or xs (get_or order m 0) None ≡ get_or ys (get_or order m 0) None
  one_to n xs ys n_in is_x is_y m lt =
      along_order net order is_order (λ j. (m : ℕ) → m < n → get_or order m 0 ≡ j → get_or xs j None ≡ get_or ys j None) (λ j j_in fed m m_lt is.
      fits_one net rows rows xs ys (get_or net.joints j no_joint) (get_or xs j None) (get_or ys j None) refl
      (given_fed net wired rows xs ys j no_joint j_in is_x.one_each is_y.one_each (below j no_joint j_in) (λ k e k_in feeds.
      let earlier = fed_before net order is_order m no_joint (omega (arith, m_lt, n_in)) k e k_in (rw is feeds) in
      fed k no_joint e k_in feeds earlier.0 (omega (arith, earlier.1, m_lt)) earlier.2))
      (rw is at (is_x.fits m no_joint m_lt)) (rw is at (is_y.fits m no_joint m_lt)))
      (get_or order m 0) (place_in net order is_order m (omega (arith, lt, n_in))) m lt refl

  -- One place more.
  module _ (n : ℕ) (n_in : n < length order) (items : List (Option Value)) (filled : IsFilledTo net rows order n items) where
    abbrev here : ℕ
    here = get_or order n 0

    here_in : here < length net.joints
    here_in = place_in net order is_order n n_in

    -- An item there changes nothing of what is given at the places up to it.
    stays : (o : Option Value) (m : ℕ) (d : Joint) → m ≤ n → mark_at net rows (get_or net.joints (get_or order m 0) d).giver ≡ F
        → given_at net rows (set items here o) (get_or net.joints (get_or order m 0) d).giver ≡ given_at net rows items (get_or net.joints (get_or order m 0) d).giver
    stays o m d le =
        let m_in : m < length order = omega (arith, le, n_in) in
        let range = place_in net order is_order m m_in in
        given_fed net wired rows (set items here o) items (get_or order m 0) d range (length-set items here o ∙ filled.one_each) filled.one_each (below (get_or order m 0) d range) (λ k e k_in feeds.
        let earlier = fed_before net order is_order m d m_in k e k_in feeds in
        get_or-set_other items here k o None (λ same. is_order.once earlier.0 n (omega (arith, earlier.1, le)) n_in (earlier.2 ∙ same)))

    with_item : (o : Option Value) → ItemFits net rows items (get_or net.joints here no_joint) o → IsFilledTo net rows order (suc n) (set items here o)
    with_item o fits = record {
      one_each = length-set items here o ∙ filled.one_each;
      fits = λ m d lt.
          let moved : (p : Option Value) → ItemFits net rows items (get_or net.joints (get_or order m 0) d) p → ItemFits net rows (set items here o) (get_or net.joints (get_or order m 0) d) p = λ p.
          fits_same net net rows rows items (set items here o) (get_or net.joints (get_or order m 0) d) p refl (stays o m d (omega (arith, lt))) (λ item. refl) in
          elim (eq_or m n) [
            | inl same ↦
                rw (ap (λ (q : ℕ). get_or (set items here o) (get_or order q 0) None) same, get_or-set_same items here o None (omega (arith, here_in, filled.one_each)))
                (moved o (rw (ap (λ (q : ℕ). get_or net.joints (get_or order q 0) d) same, get_or_default net.joints here d no_joint here_in) fits))
            | inr other ↦
                let m_lt : m < n = omega (arith, lt, other) in
                rw (get_or-set_other items here (get_or order m 0) o None (is_order.once m n m_lt n_in)) (moved (get_or items (get_or order m 0) None) (filled.fits m d m_lt))
          ];
    }

    more : Decided ((new : List (Option Value)) × IsFilledTo net rows order (suc n) new)
    more =
        let joint : Joint = get_or net.joints here no_joint in
        elim (fits_or net rows items joint) [
          | inl found ↦ inl (set items here found.0, with_item found.0 found.1)
          | inr none ↦ inr (λ new.
              let fewer : IsFilledTo net rows order n new.0 = record { one_each = new.1.one_each; fits = λ m d lt. new.1.fits m d (omega (arith, lt)) } in
              none (
                get_or new.0 here None,
                fits_same net net rows rows new.0 items joint (get_or new.0 here None) refl
                    (given_fed net wired rows items new.0 here no_joint here_in filled.one_each new.1.one_each (below here no_joint here_in) (λ k e k_in feeds.
                    let earlier = fed_before net order is_order n no_joint n_in k e k_in feeds in
                    rw earlier.2 at (one_to n items new.0 (omega (arith, n_in)) filled fewer earlier.0 earlier.1)))
                    (λ item. refl) (new.1.fits n no_joint (omega arith)),
              ))
        ]

  filled_or : (n : ℕ) → n ≤ length order → Decided ((items : List (Option Value)) × IsFilledTo net rows order n items)
  filled_or zero le = inl (no_items net, record { one_each = length-map {B = Option Value} net.joints (λ _. None); fits = λ m d lt. absurd (omega arith) })
  filled_or (suc n) le =
      elim (filled_or n (omega arith)) [
        | inl before ↦ more n (omega arith) before.0 before.1
        | inr none ↦ inr (λ new. none (new.0, record { one_each = new.1.one_each; fits = λ m d lt. new.1.fits m d (omega (arith, lt)) }))
      ]

  matched_or : Decided ((j : ℕ) → j < length net.joints → JointMatches net rows (get_or net.joints j no_joint))
  matched_or = all_below (λ j. JointMatches net rows (get_or net.joints j no_joint)) (λ j. bool_or (marks_match (mark_at net rows (get_or net.joints j no_joint).giver) (mark_at net rows (get_or net.joints j no_joint).taker))) (length net.joints)

  items_or : Decided ((items : List (Option Value)) × IsColouring net rows items)
  items_or =
      elim matched_or [
        | inr none ↦ inr (λ found. none (λ j lt. found.1.rows_fit.matched j no_joint lt))
        | inl matched ↦ elim (filled_or (length order) (omega arith)) [
          | inr none ↦ inr (λ found. none (found.0, record { one_each = found.1.one_each; fits = λ m d lt. found.1.items_fit (get_or order m 0) d (place_in net order is_order m lt) }))
          | inl filled ↦ inl (
            filled.0,
            record {
              rows_fit = record { in_tables = are; matched = λ j d lt. rw (get_or_default net.joints j d no_joint lt) (matched j lt) };
              one_each = filled.1.one_each;
              items_fit = λ j d lt. let place = place_of net order is_order j lt in rw place.2 at (filled.1.fits place.0 d place.1);
            },
          )
        ]
      ]

are_rows_or : (ss : List Side) (rs : List ℕ) → Decided (AreRows ss rs)
are_rows_or [] [] = inl tt
are_rows_or [] (r ∷ rs) = inr (λ h. h)
are_rows_or (s ∷ ss) [] = inr (λ h. h)
are_rows_or (s ∷ ss) (r ∷ rs) =
    elim (cases_lt r (row_count s)) [
      | inr le ↦ inr (λ h. let lt = h.0 in absurd (omega (arith, le, lt)))
      | inl lt ↦ elim (are_rows_or ss rs) [
        | inl rest ↦ inl (lt, rest)
        | inr none ↦ inr (λ h. none h.1)
      ]
    ]

-- Rows have items that make them a colouring, or none do.
pub colouring_or : (net : Net) → IsWired net → (order : List ℕ) → IsOrder net order → (rows : List ℕ) → Decided ((items : List (Option Value)) × IsColouring net rows items)
colouring_or net wired order is_order rows =
    elim (are_rows_or (all_sides net.primitives) rows) [
      | inl are ↦ items_or net wired order is_order rows are
      | inr none ↦ inr (λ found. none found.1.rows_fit.in_tables)
    ]
