-- What the end of a walk comes to.
use Rattle.std.proofs.Common.{◌≡◌, inl, inr, ℕ, zero, suc, ◌+◌, ◌*◌, ◌<◌, ◌&&◌, ◌||◌, Bool, true, false, cond, Option, List, [], ◌∷◌, ◌++◌, length, slice_index, slice_index_or, refl, sym, ap, ◌∙◌, subst, arith}
use Rattle.std.specs.Bool.{◌==◌}
use Rattle.std.specs.Prelude.{Contains}
use Rattle.std.proofs.lemmas.Bool.{and_parts, cases_Bool, ne_eqb}
use Rattle.std.proofs.lemmas.Bool.Decides.{nat_tests}
use Rattle.std.proofs.lemmas.List.{get_or_default}
use Rattle.std.specs.declared.cmp.Ordering.TheVariants.{Less}
use Rattle.std.specs.Ordering.{nat_cmp}
use Rattle.std.specs.Cmp.Lexicographic.{slice_cmp}
use Rattle.reo_values.specs.declared.value.Value.{Value}
use Rattle.reo_net_base.specs.declared.joint.End.{End}
use Rattle.reo_net_base.specs.declared.joint.Joint.{Joint}
use Rattle.reo_net_base.specs.declared.mark.Mark.{Mark}
use Rattle.reo_net_base.specs.declared.mark.Mark.TheVariants.{F, G, R, J}
use Rattle.reo_net_base.specs.Behaviour.{Behaviour}
use Rattle.reo_net_base.specs.First.{Position, key_at, positions, order_by}
use Rattle.reo_net_base.specs.Marks.{marks_match}
use Rattle.reo_net_base.specs.Net.{Net, Side, no_side, behaviour_at, side_at, first_side, row_count, mark_at}
use Rattle.reo_net_base.specs.Sides.{side_count}
use Rattle.reo_net_base.specs.Wired.{IsWired, IsEnd, IsOrder}
use Rattle.reo_net_laws.specs.JamRows.{jam_rows, no_items}
use Rattle.reo_net_laws.specs.Jams.{jams, IsThreeColouring}
use Rattle.reo_net_laws.specs.Keys.{class_of, leads_at, within}
use Rattle.reo_net_laws.specs.Parts.{IsClosed, IsKnot, IsAssignment, is_joint_inside}
use Rattle.reo_net_laws.specs.Sublists.{sides_in, part_rows, part_classes, part_leading}
use Rattle.reo_net_laws.proofs.JamRows.{jam_colouring}
use Rattle.reo_net_laws.proofs.Jams.{jams_closed, last_of}
use Rattle.reo_net_laws.proofs.Orders.{no_joint}
use Rattle.reo_net_laws.proofs.Places.{key_inside, key-append}
use Rattle.reo_net_laws.proofs.Sets.{restricted}
use Rattle.reo_net_laws.proofs.Sides.{Owner, owner_of, owner_side, side_at_place, row_is}
use Rattle.reo_net_laws.proofs.Sublists.{part_keys}
use Rattle.reo_net_laws.specs.state_laws.States.{IsOpen, AreFirstRows}
use Rattle.reo_net_laws.specs.state_laws.Walks.{number_of, IsWalk}
use Rattle.reo_net_laws.proofs.state_laws.Open.{open_items}
use Rattle.reo_net_laws.proofs.state_laws.Walking.{not_less}
use Rattle.reo_mark_sets.specs.declared.marks.PlainMarks.{PlainMarks}
use Rattle.reo_mark_sets.specs.PlainMarks.{has, meets, met, marks_at, open_at}
use Rattle.reo_mark_search.specs.Fitting.{Fits, IsRival, ArePinned, AreMet}
use Rattle.reo_mark_search.specs.MarkFinding.{HasFirstRows}
use Rattle.reo_mark_search.specs.Places.{class_place, lead_places, class_places, row_places}
use Rattle.reo_mark_search.specs.Spots.{spot_of, AreSpots}
use Rattle.reo_mark_search.proofs.Placed.{partner_even}
use Rattle.reo_mark_search.proofs.Steps.{not_before_less, same_not_less}

-- The numbers at the places of sides are what their rows are compared by.
module _ (net : Net) (turn : ℕ) (rows : List ℕ) where
  leads_key : (ks : List ℕ) → key_at (lead_places net turn ks) rows ≡ part_leading net turn ks (part_rows ks rows)
  leads_key [] = refl
  leads_key (k ∷ ks) =
      elim (leads_at net k) as (λ t. key_at (cond t (class_place net turn k ∷ lead_places net turn ks) (lead_places net turn ks)) rows ≡ cond t (class_of net turn k (slice_index rows k) ∷ part_leading net turn ks (part_rows ks rows)) (part_leading net turn ks (part_rows ks rows))) [
        | true ↦ ap (λ (xs : List ℕ). class_of net turn k (slice_index rows k) ∷ xs) (leads_key ks)
        | false ↦ leads_key ks
      ]

  classes_key : (ks : List ℕ) → key_at (class_places net turn ks) rows ≡ part_classes net turn ks (part_rows ks rows)
  classes_key [] = refl
  classes_key (k ∷ ks) = ap (λ (xs : List ℕ). class_of net turn k (slice_index rows k) ∷ xs) (classes_key ks)

  rows_key : (ks : List ℕ) → key_at (row_places ks) rows ≡ part_rows ks rows
  rows_key [] = refl
  rows_key (k ∷ ks) = ap (λ (xs : List ℕ). slice_index rows k ∷ xs) (rows_key ks)

  abbrev all_places : List ℕ → List Position
  all_places ks = lead_places net turn ks ++ (class_places net turn ks ++ row_places ks)

  key_is : (inside : ℕ → Bool) → key_at (all_places (sides_in net inside)) rows ≡ key_at (within inside (positions net turn)) rows
  key_is inside =
      let ks : List ℕ = sides_in net inside in
      key-append (lead_places net turn ks) (class_places net turn ks ++ row_places ks) rows
      ∙ (λ i. leads_key ks i ++ key-append (class_places net turn ks) (row_places ks) rows i)
      ∙ (λ i. part_leading net turn ks (part_rows ks rows) ++ (classes_key ks i ++ rows_key ks i))
      ∙ part_keys net turn inside rows

-- The first of the places.
first_place : (net : Net) (turn : ℕ) (ks : List ℕ) (k : ℕ) (rest : List Position) (inside : ℕ → Bool) → inside k ≡ true → ((m : ℕ) → Contains ks m → inside m ≡ true)
    → (s : ℕ) × (inside s ≡ true) × (ps : List Position) × (lead_places net turn ks ++ class_place net turn k ∷ rest ≡ class_place net turn s ∷ ps)
first_place net turn [] k rest inside here all = (k, here, rest, refl)
first_place net turn (x ∷ ks) k rest inside here all =
    elim (leads_at net x) as (λ t. (s : ℕ) × (inside s ≡ true) × (ps : List Position) × (cond t (class_place net turn x ∷ lead_places net turn ks) (lead_places net turn ks) ++ class_place net turn k ∷ rest ≡ class_place net turn s ∷ ps)) [
      | true ↦ (x, all x (zero, omega arith, refl), lead_places net turn ks ++ class_place net turn k ∷ rest, refl)
      | false ↦ first_place net turn ks k rest inside here (λ m c. all m (suc c.0, omega (arith, c.1), c.2))
    ]

-- What meets a mark is there.
meets_found : (theirs : PlainMarks) (m : Mark) → meets theirs m ≡ true → (n : Mark) × (has theirs n ≡ true) × (marks_match m n ≡ true)
meets_found theirs F h = (F, h, refl)
meets_found theirs G h = elim (cases_Bool theirs.given) [
  | inl given ↦ (G, given, refl)
  | inr not ↦ (R, subst (λ (t : Bool). (t || theirs.required) ≡ true) not h, refl)
]
meets_found theirs R h = (G, h, refl)
meets_found theirs J h = cc

met_parts : (own theirs : PlainMarks) (m : Mark) → has (met own theirs) m ≡ true → (has own m ≡ true) × (meets theirs m ≡ true)
met_parts own theirs F h = and_parts own.flow theirs.flow h
met_parts own theirs G h = and_parts own.given (theirs.given || theirs.required) h
met_parts own theirs R h = and_parts own.required theirs.given h
met_parts own theirs J h = cc

module _ (net : Net) (wired : IsWired net) (inside : ℕ → Bool) (knot : IsKnot net inside) (sides : List ℕ) (all : (k : ℕ) → inside k ≡ true → Contains sides k) where
  closed : IsClosed net inside
  closed = knot.closed

  -- Rows by which each side is pinned, and each mark met, fit together.
  module _ (spots : List (List ℕ)) (are : AreSpots net spots) (sets : List PlainMarks) (rows : List ℕ) (one_row : length rows ≡ side_count net) (pinned : ArePinned net spots sides (length sides) sets rows)
      (met_all : AreMet net spots sides (length sides) sets) where
    place : (k : ℕ) (h : inside k ≡ true) → slice_index sides (all k h).0 ≡ k
    place k h = let c = all k h in get_or_default sides c.0 0 k c.1 ∙ c.2

    -- An end of the set has its mark, which meets one at the other end.
    module _ (e : End) (e_in : IsEnd net.primitives e) (here : inside (side_at net e) ≡ true) where
      b : Behaviour
      b = behaviour_at net.primitives e.primitive

      q : ℕ
      q = (all (side_at net e) here).0

      at : slice_index sides (all (side_at net e) here).0 ≡ first_side net.primitives e.primitive + (behaviour_at net.primitives e.primitive).side_of e.end
      at = place (side_at net e) here ∙ side_at_place net e

      side_in : (behaviour_at net.primitives e.primitive).side_of e.end < (behaviour_at net.primitives e.primitive).sides
      side_in = (wired.lawful e.primitive e_in.0).sides_in e.end e_in.1

      pub mark_is : (m : Mark) → has (marks_at sets (spot_of spots e)) m ≡ true → mark_at net rows e ≡ m
      unfolding mark_at
      mark_is m h =
          (λ i. (behaviour_at net.primitives e.primitive).mark ((behaviour_at net.primitives e.primitive).side_of e.end) ((row_is net rows e ∙ ap (slice_index rows) (sym (place (side_at net e) here))) i) e.end)
          ∙ pinned.marks (all (side_at net e) here).0 e.primitive ((behaviour_at net.primitives e.primitive).side_of e.end) e.end m (all (side_at net e) here).1 e_in.0 side_in at (e_in.1, refl) h

      pub is_met : (m : Mark) × (has (open_at sets (spot_of spots e)) m ≡ true)
      is_met = met_all.meet (all (side_at net e) here).0 e.primitive ((behaviour_at net.primitives e.primitive).side_of e.end) e.end (all (side_at net e) here).1 e_in.0 side_in at (e_in.1, refl)

    -- A joint of the set.
    record HasMatch (j : ℕ) : Type 0 where
      pub giver : Mark
      pub taker : Mark
      pub match : marks_match giver taker ≡ true
      pub gives : mark_at net rows (slice_index_or net.joints j no_joint).giver ≡ giver
      pub takes : mark_at net rows (slice_index_or net.joints j no_joint).taker ≡ taker
      pub giver_has : has (marks_at sets (2 * j)) giver ≡ true
      pub taker_has : has (marks_at sets (2 * j + 1)) taker ≡ true

    matched : (j : ℕ) → j < length net.joints → is_joint_inside net inside (slice_index_or net.joints j no_joint) ≡ true → HasMatch j
    matched j lt h =
        let joint : Joint = slice_index_or net.joints j no_joint in
        let e_in = wired.givers j no_joint lt in
        let f_in = wired.takers j no_joint lt in
        let g = is_met joint.giver e_in h in
        let there : inside (side_at net joint.taker) ≡ true = sym (closed.along j no_joint lt) ∙ h in
        let at_even : spot_of spots joint.giver ≡ 2 * j = are.giver j no_joint lt in
        let opens : has (met (marks_at sets (2 * j)) (marks_at sets (2 * j + 1))) g.0 ≡ true =
        subst (λ (x : ℕ). has (met (marks_at sets (2 * j)) (marks_at sets x)) g.0 ≡ true) (partner_even j) (subst (λ (x : ℕ). has (open_at sets x) g.0 ≡ true) at_even g.1) in
        let parts = met_parts (marks_at sets (2 * j)) (marks_at sets (2 * j + 1)) g.0 opens in
        let other = meets_found (marks_at sets (2 * j + 1)) g.0 parts.1 in
        record {
          giver = g.0;
          taker = other.0;
          match = other.2;
          gives = mark_is joint.giver e_in h g.0 (subst (λ (x : ℕ). has (marks_at sets x) g.0 ≡ true) (sym at_even) parts.0);
          takes = mark_is joint.taker f_in there other.0 (subst (λ (x : ℕ). has (marks_at sets x) other.0 ≡ true) (sym (are.taker j no_joint lt)) other.1);
          giver_has = parts.0;
          taker_has = other.1;
        }

    plain_at : (k : ℕ) (o : Owner net.primitives k) → inside k ≡ true → slice_index rows k + 1 < (behaviour_at net.primitives o.primitive).rows o.number
    plain_at k o h =
        subst (λ (s : ℕ). slice_index rows s + 1 < (behaviour_at net.primitives o.primitive).rows o.number) (place k h)
        (pinned.plain (all k h).0 o.primitive o.number (all k h).1 o.primitive_in o.number_in (place k h ∙ o.place))

    pub pinned_rival : IsRival net inside rows
    pinned_rival = record {
      fitting = record {
        one_row = one_row;
        in_tables = λ k d lt h.
            let o = owner_of net.primitives k lt in
            let p = plain_at k o h in
            subst (λ (s : Side). slice_index rows k < row_count s) (sym (owner_side net.primitives k o d)) (omega (arith, p));
        matched = λ j d lt h.
            let d_is : slice_index_or net.joints j d ≡ slice_index_or net.joints j no_joint = get_or_default net.joints j d no_joint lt in
            let m = matched j lt (ap (is_joint_inside net inside) (sym d_is) ∙ h) in
            (λ i. marks_match ((ap (λ (x : Joint). mark_at net rows x.giver) d_is ∙ m.gives) i) ((ap (λ (x : Joint). mark_at net rows x.taker) d_is ∙ m.takes) i)) ∙ m.match;
      };
      no_jam = λ k lt h.
          let o = owner_of net.primitives k lt in
          let p = plain_at k o h in
          ap (λ (s : Side). slice_index rows k + 1 == row_count s) (owner_side net.primitives k o no_side) ∙ ne_eqb (slice_index rows k + 1) ((behaviour_at net.primitives o.primitive).rows o.number) (λ e. omega (arith, p, e));
    }

    pub pinned_fits : Fits net inside sets rows
    pinned_fits = record {
      giver = λ j d lt h.
          let d_is : slice_index_or net.joints j d ≡ slice_index_or net.joints j no_joint = get_or_default net.joints j d no_joint lt in
          let m = matched j lt (ap (is_joint_inside net inside) (sym d_is) ∙ h) in
          subst (λ (x : Mark). has (marks_at sets (2 * j)) x ≡ true) (sym (ap (λ (x : Joint). mark_at net rows x.giver) d_is ∙ m.gives)) m.giver_has;
      taker = λ j d lt h.
          let d_is : slice_index_or net.joints j d ≡ slice_index_or net.joints j no_joint = get_or_default net.joints j d no_joint lt in
          let m = matched j lt (ap (is_joint_inside net inside) (sym d_is) ∙ h) in
          subst (λ (x : Mark). has (marks_at sets (2 * j + 1)) x ≡ true) (sym (ap (λ (x : Joint). mark_at net rows x.taker) d_is ∙ m.takes)) m.taker_has;
    }

  -- Where some side jams, each does.
  abbrev seed : ℕ
  seed = knot.some.0

  seed_in : inside (knot.some.0) ≡ true
  seed_in = knot.some.2

  module _ (others : List ℕ) (items : List (Option Value)) (is : IsAssignment net inside others items) where
    jams_alike : (k : ℕ) → inside k ≡ true → jams net others k ≡ jams net others (knot.some.0)
    jams_alike k h =
        let link = knot.joined k (knot.some.0) h seed_in (λ s. inside s && jams net others s) (jams_closed net wired inside closed others items is) in
        sym (ap (λ (t : Bool). t && jams net others k) h) ∙ link ∙ ap (λ (t : Bool). t && jams net others (knot.some.0)) seed_in

    pub rival_of : jams net others (knot.some.0) ≡ false → IsRival net inside others
    rival_of calm = record {
      fitting = record { one_row = is.one_row; in_tables = is.in_tables; matched = is.matched };
      no_jam = λ k lt h. jams_alike k h ∙ calm;
    }

    -- The class of a jam row is the greatest.
    jam_class : jams net others (knot.some.0) ≡ true → (turn : ℕ) (rows : List ℕ) → IsRival net inside rows → (k : ℕ) → k < side_count net → inside k ≡ true → number_of (class_place net turn k) rows < number_of (class_place net turn k) others
    jam_class jam turn rows rival k lt h =
        let o = owner_of net.primitives k lt in
        let side_here = owner_side net.primitives k o no_side in
        let calm : (slice_index rows k + 1 == (behaviour_at net.primitives o.primitive).rows o.number) ≡ false = sym (ap (λ (s : Side). slice_index rows k + 1 == row_count s) side_here) ∙ rival.no_jam k lt h in
        let below : slice_index rows k < (behaviour_at net.primitives o.primitive).rows o.number = subst (λ (s : Side). slice_index rows k < row_count s) side_here (rival.fitting.in_tables k no_side lt h) in
        let plain : slice_index rows k + 1 < (behaviour_at net.primitives o.primitive).rows o.number = not_last (slice_index rows k) ((behaviour_at net.primitives o.primitive).rows o.number) below calm in
        let last = last_of net others k o (jams_alike k h ∙ jam) in
        subst (λ (s : Side). s.of.class s.number (slice_index rows k) turn < s.of.class s.number (slice_index others k) turn) (sym side_here)
        ((wired.lawful o.primitive o.primitive_in).jam_last o.number (slice_index rows k) (slice_index others k) turn o.number_in plain last)
      where
        not_last : (x n : ℕ) → x < n → (x + 1 == n) ≡ false → x + 1 < n
        not_last x n lt h = grind (arith, nat_tests)

  -- A rival that is a walk is first.
  module _ (order : List ℕ) (is_order : IsOrder net order) (lets : IsOpen net inside) (turn : ℕ) (rows : List ℕ) (rival : IsRival net inside rows)
      (walk : IsWalk (IsRival net inside) (lead_places net turn (sides_in net inside) ++ (class_places net turn (sides_in net inside) ++ row_places (sides_in net inside))) rows)
      (sides_are : sides ≡ sides_in net inside) (within_all : (k : ℕ) → Contains sides k → (inside k ≡ true) × (k < side_count net)) where
    abbrev ps : List Position
    ps = lead_places net turn (sides_in net inside) ++ (class_places net turn (sides_in net inside) ++ row_places (sides_in net inside))

    by_places : (others : List ℕ) → order_by (within inside (positions net turn)) others rows ≡ order_by ps others rows
    by_places others i = slice_cmp nat_cmp (sym (key_is net turn others inside) i) (sym (key_is net turn rows inside) i)

    listed : (k : ℕ) → inside k ≡ true → Contains (sides_in net inside) k
    listed k h = subst (λ (xs : List ℕ). Contains xs k) sides_are (all k h)

    inside_all : (k : ℕ) → Contains (sides_in net inside) k → (inside k ≡ true) × (k < side_count net)
    inside_all k c = within_all k (subst (λ (xs : List ℕ). Contains xs k) (sym sides_are) c)

    head : (xs : List ℕ) → ((k : ℕ) → Contains xs k → (inside k ≡ true) × (k < side_count net)) → Contains xs (knot.some.0)
        → (s : ℕ) × (inside s ≡ true) × (s < side_count net) × (qs : List Position) × (lead_places net turn xs ++ (class_places net turn xs ++ row_places xs) ≡ class_place net turn s ∷ qs)
    head [] every c = absurd (omega (arith, c.1))
    head (x ∷ xs) every c =
        let test : ℕ → Bool = λ s. inside s in
        let found = first_place net turn (x ∷ xs) x (class_places net turn xs ++ row_places (x ∷ xs)) inside (every x (zero, omega arith, refl)).0 (λ m d. (every m d).0) in
        (found.0, found.1, bound found.0 found.1, found.2, found.3)
      where
        bound : (s : ℕ) → inside s ≡ true → s < side_count net
        bound s h = (within_all s (all s h)).1

    pub walk_first : AreFirstRows net inside turn rows
    walk_first =
        let found = open_items net wired order is_order inside closed lets rows rival.fitting in
        record {
          items = found.0;
          first = record {
            assignment = found.1;
            least = λ others other_items is less.
                let less_by : order_by ps others rows ≡ Less = sym (by_places others) ∙ less in
                elim (cases_Bool (jams net others (knot.some.0))) [
                  | inl jam ↦
                      let h = head (sides_in net inside) inside_all (listed (knot.some.0) seed_in) in
                      not_before_less (class_place net turn h.0) h.3 rows others (jam_class others other_items is jam turn rows rival h.0 h.2 h.1)
                      (ap (λ (qs : List Position). order_by qs others rows) (sym h.4) ∙ less_by)
                  | inr calm ↦ not_less (IsRival net inside) ps rows others walk (rival_of others other_items is calm) less_by
                ];
          };
        }

  -- Where there is no rival, all jam.
  module _ (turn : ℕ) (none : (others : List ℕ) → IsRival net inside others → ⊥) where
    all_jam : (others : List ℕ) (items : List (Option Value)) → IsAssignment net inside others items → (k : ℕ) → inside k ≡ true → jams net others k ≡ true
    all_jam others items is k h = elim (cases_Bool (jams net others (knot.some.0))) [
      | inl jam ↦ jams_alike others items is k h ∙ jam
      | inr calm ↦ absurd (none others (rival_of others items is calm))
    ]

    jam_assigned : IsAssignment net inside (jam_rows net) (no_items net)
    jam_assigned = restricted net inside (jam_rows net) (no_items net) (jam_colouring net wired)

    one_jam : (others : List ℕ) (items : List (Option Value)) → IsAssignment net inside others items → (k : ℕ) → inside k ≡ true → k < side_count net → slice_index others k ≡ slice_index (jam_rows net) k
    one_jam others items is k h lt =
        let o = owner_of net.primitives k lt in
        let a = last_of net others k o (all_jam others items is k h) in
        let c = last_of net (jam_rows net) k o (all_jam (jam_rows net) (no_items net) jam_assigned k h) in
        omega (arith, a, c)

    pub jam_first : (rows : List ℕ) → ((k : ℕ) → inside k ≡ true → k < side_count net → slice_index rows k ≡ slice_index (jam_rows net) k) → ((k : ℕ) → inside k ≡ true → k < side_count net) → HasFirstRows net inside turn rows
    jam_first rows here below = record {
      those = jam_rows net;
      first = record {
        items = no_items net;
        first = record {
          assignment = jam_assigned;
          least = λ others other_items is.
              same_not_less (within inside (positions net turn)) others (jam_rows net) (key_inside inside (positions net turn) others (jam_rows net) (λ k h. one_jam others other_items is k h (below k h)));
        };
      };
      same = λ s lt h. here s h lt;
    }

    pub no_colouring : (others : List ℕ) (items : List (Option Value)) → IsThreeColouring net inside others items → ⊥
    no_colouring others items is = none others (record {
      fitting = record { one_row = is.assignment.one_row; in_tables = is.assignment.in_tables; matched = is.assignment.matched };
      no_jam = is.no_jam;
    })
