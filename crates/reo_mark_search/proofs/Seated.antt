-- What is done at a side, and rows that fit.
use Rattle.std.proofs.Common.{◌≡◌, inl, inr, ℕ, ◌+◌, ◌*◌, ◌<◌, ◌≤◌, ◌||◌, Bool, true, false, List, length, slice_index, slice_index_or, refl, sym, ap, ◌∙◌, subst, arith}
use Rattle.std.specs.Bool.{◌==◌}
use Rattle.std.proofs.lemmas.Bool.{and_from, and_parts}
use Rattle.std.proofs.lemmas.Bool.Decides.{nat_tests}
use Rattle.std.proofs.lemmas.List.{get_or_default}
use Rattle.reo_net_base.specs.declared.form.Form.{Form}
use Rattle.reo_net_base.specs.declared.joint.End.{End}
use Rattle.reo_net_base.specs.declared.joint.Joint.{Joint}
use Rattle.reo_net_base.specs.declared.mark.Mark.{Mark}
use Rattle.reo_net_base.specs.declared.mark.Mark.TheVariants.{F, G, R, J}
use Rattle.reo_net_base.specs.Behaviour.{Behaviour}
use Rattle.reo_net_base.specs.Forms.{HasForm, mark_by, rows_by, class_by}
use Rattle.reo_net_base.specs.Marks.{marks_match}
use Rattle.reo_net_base.specs.Net.{Net, Side, all_sides, no_side, behaviour_at, end_of, side_at, first_side, row_count, row_at, mark_at}
use Rattle.reo_net_base.specs.Sides.{side_count}
use Rattle.reo_net_base.specs.Wired.{IsWired, IsEnd}
use Rattle.reo_net_laws.specs.Parts.{IsClosed, is_joint_inside}
use Rattle.reo_net_laws.proofs.Orders.{no_joint}
use Rattle.reo_net_laws.proofs.Sides.{side_is, side_in, row_is}
use Rattle.reo_net_laws.specs.state_laws.Walks.{number_of}
use Rattle.reo_mark_sets.specs.declared.marks.PlainMarks.{PlainMarks}
use Rattle.reo_mark_sets.specs.PlainMarks.{has, meets, met, marks_at, open_at, partner}
use Rattle.reo_mark_sets.specs.Standing.{Stands, Works, AreElsewhere, AreFewer, IsNarrowed, IsClassed, IsChosen, SomeWorks, width_by}
use Rattle.reo_mark_search.specs.Fitting.{Fits, IsRival, AreReduced, HasNoRival}
use Rattle.reo_mark_search.specs.Places.{class_place, row_place}
use Rattle.reo_mark_search.specs.Spots.{spot_of, AreSpots, end_by, AreEndsOf}
use Rattle.reo_mark_search.specs.Walking.{IsTakenAt}
use Rattle.reo_mark_search.proofs.Placed.{decide, spot_is, spot_once, end_is, end_in, end_side, mark_offset, offset_of, partner_even, partner_odd}

-- A mark meets those among which its match is.
pub meets_there : (a b : Mark) (theirs : PlainMarks) → marks_match a b ≡ true → has theirs b ≡ true → meets theirs a ≡ true
meets_there F F theirs match h = h
meets_there F G theirs match h = cc
meets_there F R theirs match h = cc
meets_there F J theirs match h = cc
meets_there G F theirs match h = cc
meets_there G G theirs match h = left theirs.given theirs.required h
  where
    left : (x y : Bool) → x ≡ true → (x || y) ≡ true
    left true y e = refl
    left false y e = cc
meets_there G R theirs match h = right theirs.given theirs.required h
  where
    right : (x y : Bool) → y ≡ true → (x || y) ≡ true
    right true y e = refl
    right false y e = e
meets_there G J theirs match h = cc
meets_there R F theirs match h = cc
meets_there R G theirs match h = h
meets_there R R theirs match h = cc
meets_there R J theirs match h = cc
meets_there J F theirs match h = cc
meets_there J G theirs match h = cc
meets_there J R theirs match h = cc
meets_there J J theirs match h = cc

pub match_back : (a b : Mark) → marks_match a b ≡ true → marks_match b a ≡ true
match_back F F h = refl
match_back F G h = cc
match_back F R h = cc
match_back F J h = cc
match_back G F h = cc
match_back G G h = refl
match_back G R h = refl
match_back G J h = cc
match_back R F h = cc
match_back R G h = refl
match_back R R h = cc
match_back R J h = cc
match_back J F h = cc
match_back J G h = cc
match_back J R h = cc
match_back J J h = refl

has_met : (own theirs : PlainMarks) (m : Mark) → has own m ≡ true → meets theirs m ≡ true → has (met own theirs) m ≡ true
has_met own theirs F x y = and_from own.flow theirs.flow x y
has_met own theirs G x y = and_from own.given (theirs.given || theirs.required) x y
has_met own theirs R x y = and_from own.required theirs.given x y
has_met own theirs J x y = cc

not_last : (x n : ℕ) → x < n → (x + 1 == n) ≡ false → x + 1 < n
not_last x n lt h = grind (arith, nat_tests)

module _ (net : Net) (wired : IsWired net) (spots : List (List ℕ)) (are : AreSpots net spots) (inside : ℕ → Bool) (closed : IsClosed net inside)
    (i side : ℕ) (i_in : i < length net.primitives) (side_in_range : side < (behaviour_at net.primitives i).sides) (k : ℕ) (number : k ≡ first_side net.primitives i + side) (here : inside k ≡ true)
    (form : Form) (has_form : HasForm form (behaviour_at net.primitives i) side) (places : List ℕ) (ends : AreEndsOf net spots i side form places) where
  abbrev b : Behaviour
  b = behaviour_at net.primitives i

  abbrev joint : ℕ → Joint
  joint j = slice_index_or net.joints j no_joint

  abbrev end_at : ℕ → End
  end_at o = end_of i (end_by form side o)

  inner : (o : ℕ) → o < length places → o < width_by form
  inner o lt = omega (arith, lt, ends.width)

  at_side : (o : ℕ) → o < length places → side_at net (end_at o) ≡ k
  at_side o lt = end_side net wired spots are i side i_in form has_form o (inner o lt) ∙ sym number

  side_there : (d : Side) → slice_index_or (all_sides net.primitives) k d ≡ record { of = b; number = side }
  side_there d = ap (λ (n : ℕ). slice_index_or (all_sides net.primitives) n d) number ∙ side_is net.primitives i side d i_in side_in_range

  k_in : k < side_count net
  k_in = subst (λ (n : ℕ). n < side_count net) (sym number) (side_in net.primitives i side i_in side_in_range)

  pub in_table : (rows : List ℕ) → IsRival net inside rows → slice_index rows k < b.rows side
  in_table rows rival = subst (λ (s : Side). slice_index rows k < row_count s) (side_there no_side) (rival.fitting.in_tables k no_side k_in here)

  pub plain : (rows : List ℕ) → IsRival net inside rows → slice_index rows k + 1 < b.rows side
  plain rows rival = not_last (slice_index rows k) (b.rows side) (in_table rows rival) (subst (λ (s : Side). (slice_index rows k + 1 == row_count s) ≡ false) (side_there no_side) (rival.no_jam k k_in here))

  -- The mark of a row at an end of the side.
  mark_here : (rows : List ℕ) → IsRival net inside rows → (o : ℕ) → o < length places → mark_at net rows (end_at o) ≡ mark_by form (slice_index rows k) o
  unfolding mark_at
  mark_here rows rival o lt =
      let is = end_is net wired spots are i side i_in form has_form o (inner o lt) in
      let row : row_at net rows (end_at o) ≡ slice_index rows k = row_is net rows (end_at o) ∙ ap (slice_index rows) (at_side o lt) in
      (λ n. b.mark (is.1 n) (row n) (end_by form side o)) ∙ has_form.mark (slice_index rows k) (end_by form side o) (in_table rows rival) is ∙ mark_offset form (slice_index rows k) side o

  -- The two ends of the joint of an end fit, and match.
  module _ (sets : List PlainMarks) (rows : List ℕ) (rival : IsRival net inside rows) (fits : Fits net inside sets rows) where
    fits_end : (o : ℕ) → o < length places → has (marks_at sets (slice_index places o)) (mark_at net rows (end_at o)) ≡ true
    fits_end o lt =
        let s = spot_is net wired spots are (end_at o) (end_in net wired spots are i side i_in form has_form o (inner o lt)) in
        elim s.way [
          | inl g ↦
              let inside_j : is_joint_inside net inside (joint s.joint) ≡ true = ap (λ (e : End). inside (side_at net e)) g.0 ∙ ap inside (at_side o lt) ∙ here in
              subst (λ (x : ℕ). has (marks_at sets x) (mark_at net rows (end_at o)) ≡ true) (sym (ends.each o lt ∙ g.1))
              (subst (λ (e : End). has (marks_at sets (2 * s.joint)) (mark_at net rows e) ≡ true) g.0 (fits.giver s.joint no_joint s.in_range inside_j))
          | inr g ↦
              let inside_j : is_joint_inside net inside (joint s.joint) ≡ true = closed.along s.joint no_joint s.in_range ∙ ap (λ (e : End). inside (side_at net e)) g.0 ∙ ap inside (at_side o lt) ∙ here in
              subst (λ (x : ℕ). has (marks_at sets x) (mark_at net rows (end_at o)) ≡ true) (sym (ends.each o lt ∙ g.1))
              (subst (λ (e : End). has (marks_at sets (2 * s.joint + 1)) (mark_at net rows e) ≡ true) g.0 (fits.taker s.joint no_joint s.in_range inside_j))
        ]

    meets_end : (o : ℕ) → o < length places → meets (marks_at sets (partner (slice_index places o))) (mark_at net rows (end_at o)) ≡ true
    meets_end o lt =
        let s = spot_is net wired spots are (end_at o) (end_in net wired spots are i side i_in form has_form o (inner o lt)) in
        elim s.way [
          | inl g ↦
              let inside_j : is_joint_inside net inside (joint s.joint) ≡ true = ap (λ (e : End). inside (side_at net e)) g.0 ∙ ap inside (at_side o lt) ∙ here in
              let there : partner (slice_index places o) ≡ 2 * s.joint + 1 = ap partner (ends.each o lt ∙ g.1) ∙ partner_even s.joint in
              subst (λ (x : ℕ). meets (marks_at sets x) (mark_at net rows (end_at o)) ≡ true) (sym there)
              (subst (λ (e : End). meets (marks_at sets (2 * s.joint + 1)) (mark_at net rows e) ≡ true) g.0
              (meets_there (mark_at net rows (joint s.joint).giver) (mark_at net rows (joint s.joint).taker) (marks_at sets (2 * s.joint + 1)) (rival.fitting.matched s.joint no_joint s.in_range inside_j) (fits.taker s.joint no_joint s.in_range inside_j)))
          | inr g ↦
              let inside_j : is_joint_inside net inside (joint s.joint) ≡ true = closed.along s.joint no_joint s.in_range ∙ ap (λ (e : End). inside (side_at net e)) g.0 ∙ ap inside (at_side o lt) ∙ here in
              let there : partner (slice_index places o) ≡ 2 * s.joint = ap partner (ends.each o lt ∙ g.1) ∙ partner_odd s.joint in
              subst (λ (x : ℕ). meets (marks_at sets x) (mark_at net rows (end_at o)) ≡ true) (sym there)
              (subst (λ (e : End). meets (marks_at sets (2 * s.joint)) (mark_at net rows e) ≡ true) g.0
              (meets_there (mark_at net rows (joint s.joint).taker) (mark_at net rows (joint s.joint).giver) (marks_at sets (2 * s.joint)) (match_back (mark_at net rows (joint s.joint).giver) (mark_at net rows (joint s.joint).taker) (rival.fitting.matched s.joint no_joint s.in_range inside_j)) (fits.giver s.joint no_joint s.in_range inside_j)))
        ]

    plain_by : slice_index rows k + 1 < rows_by form
    plain_by = subst (λ (n : ℕ). slice_index rows k + 1 < n) has_form.rows (plain rows rival)

    pub fits_stands : Stands form places sets (slice_index rows k)
    fits_stands = record {
      plain = plain_by;
      each = λ o lt. subst (λ (m : Mark). has (marks_at sets (slice_index places o)) m ≡ true) (mark_here rows rival o lt) (fits_end o lt);
    }

    pub fits_works : Works form places sets (slice_index rows k)
    fits_works = record {
      plain = plain_by;
      each = λ o lt. subst (λ (m : Mark). has (open_at sets (slice_index places o)) m ≡ true) (mark_here rows rival o lt)
          (has_met (marks_at sets (slice_index places o)) (marks_at sets (partner (slice_index places o))) (mark_at net rows (end_at o)) (fits_end o lt) (meets_end o lt));
    }

    -- Rows that stand at the side, and fitted before, still fit.
    pub stands_fits : (new : List PlainMarks) → AreElsewhere places sets new → Stands form places new (slice_index rows k) → Fits net inside new rows
    stands_fits new elsewhere stands = record {
      giver = λ j d lt inside_j.
          let d_is : slice_index_or net.joints j d ≡ joint j = get_or_default net.joints j d no_joint lt in
          subst (λ (x : Joint). has (marks_at new (2 * j)) (mark_at net rows x.giver) ≡ true) (sym d_is)
          (by (2 * j) (joint j).giver (are.giver j no_joint lt) (wired.givers j no_joint lt) (subst (λ (x : Joint). has (marks_at sets (2 * j)) (mark_at net rows x.giver) ≡ true) d_is (fits.giver j d lt inside_j)));
      taker = λ j d lt inside_j.
          let d_is : slice_index_or net.joints j d ≡ joint j = get_or_default net.joints j d no_joint lt in
          subst (λ (x : Joint). has (marks_at new (2 * j + 1)) (mark_at net rows x.taker) ≡ true) (sym d_is)
          (by (2 * j + 1) (joint j).taker (are.taker j no_joint lt) (wired.takers j no_joint lt) (subst (λ (x : Joint). has (marks_at sets (2 * j + 1)) (mark_at net rows x.taker) ≡ true) d_is (fits.taker j d lt inside_j)));
    }
      where
        by : (x : ℕ) (e : End) → spot_of spots e ≡ x → IsEnd net.primitives e → has (marks_at sets x) (mark_at net rows e) ≡ true → has (marks_at new x) (mark_at net rows e) ≡ true
        by x e at e_in old = elim (decide places x) [
          | inl found ↦
              let same : end_at found.0 ≡ e = spot_once net wired spots are (end_at found.0) e (end_in net wired spots are i side i_in form has_form found.0 (inner found.0 found.1)) e_in (sym (ends.each found.0 found.1) ∙ found.2 ∙ sym at) in
              subst (λ (f : End). has (marks_at new x) (mark_at net rows f) ≡ true) same
              (subst (λ (y : ℕ). has (marks_at new y) (mark_at net rows (end_at found.0)) ≡ true) found.2
              (subst (λ (m : Mark). has (marks_at new (slice_index places found.0)) m ≡ true) (sym (mark_here rows rival found.0 found.1)) (stands.each found.0 found.1)))
          | inr none ↦ subst (λ (m : PlainMarks). has m (mark_at net rows e) ≡ true) (sym (elsewhere.others x none)) old
        ]

  -- Narrowing takes no marks that such rows have.
  narrowed_stands : (old new : List PlainMarks) → IsNarrowed form places old new → (row : ℕ) → Works form places old row → Stands form places new row
  narrowed_stands old new is row w = record { plain = w.plain; each = λ o lt. (is.exact o (mark_by form row o) lt).1 (row, w, refl) }

  met_has : (own theirs : PlainMarks) (m : Mark) → has (met own theirs) m ≡ true → has own m ≡ true
  met_has own theirs F h = (and_parts own.flow theirs.flow h).0
  met_has own theirs G h = (and_parts own.given (theirs.given || theirs.required) h).0
  met_has own theirs R h = (and_parts own.required theirs.given h).0
  met_has own theirs J h = cc

  narrowed_fewer : (old new : List PlainMarks) → IsNarrowed form places old new → AreFewer old new
  narrowed_fewer old new is x m h = elim (decide places x) [
    | inl found ↦
        let w = (is.exact found.0 m found.1).0 (subst (λ (y : ℕ). has (marks_at new y) m ≡ true) (sym found.2) h) in
        let had = met_has (marks_at old (slice_index places found.0)) (marks_at old (partner (slice_index places found.0))) m (subst (λ (n : Mark). has (open_at old (slice_index places found.0)) n ≡ true) w.2 (w.1.each found.0 found.1)) in
        subst (λ (y : ℕ). has (marks_at old y) m ≡ true) found.2 had
    | inr none ↦ subst (λ (s : PlainMarks). has s m ≡ true) (is.elsewhere.others x none) h
  ]

  pub narrowed_reduced : (old new : List PlainMarks) → IsNarrowed form places old new → AreReduced net inside old new
  narrowed_reduced old new is = record {
    one_each = is.elsewhere.one_each;
    fewer = narrowed_fewer old new is;
    keeps = λ rows rival fits. stands_fits old rows rival fits new is.elsewhere (narrowed_stands old new is (slice_index rows k) (fits_works old rows rival fits));
  }

  pub narrowed_none : (old : List PlainMarks) → (SomeWorks form places old → ⊥) → HasNoRival net inside old
  narrowed_none old none rows rival fits = none (slice_index rows k, fits_works old rows rival fits)

  class_here : (turn : ℕ) (rows : List ℕ) → IsRival net inside rows → number_of (class_place net turn k) rows ≡ class_by form (slice_index rows k) turn
  class_here turn rows rival =
      ap (λ (s : Side). s.of.class s.number (slice_index rows k) turn) (side_there no_side) ∙ has_form.class (slice_index rows k) turn (in_table rows rival)

  pub classed_taken : (turn : ℕ) (old new : List PlainMarks) → IsClassed form places turn old new → IsTakenAt net inside (class_place net turn k) old new
  classed_taken turn old new is = record {
    one_each = is.elsewhere.one_each;
    fewer = is.fewer;
    number = is.class;
    least = λ rows rival fits. subst (λ (n : ℕ). is.class ≤ n) (sym (class_here turn rows rival)) (is.least (slice_index rows k) (fits_stands old rows rival fits));
    stay = λ rows rival fits same. stands_fits old rows rival fits new is.elsewhere (is.stay (slice_index rows k) (fits_stands old rows rival fits) (sym (class_here turn rows rival) ∙ same));
    only = λ rows rival fits. class_here turn rows rival ∙ is.only (slice_index rows k) (fits_stands new rows rival fits);
  }

  -- Rows of the side with the same marks are one.
  one_row : (row other : ℕ) → row < b.rows side → other < b.rows side → ((o : ℕ) → o < length places → mark_by form row o ≡ mark_by form other o) → row ≡ other
  one_row row other row_in other_in same =
      (wired.lawful i i_in).told_apart side row other side_in_range row_in other_in (λ end is.
      let at = offset_of form side end ((has_form.ends end).0 is) in
      let o_in : at.0 < length places = omega (arith, at.1, ends.width) in
      has_form.mark row end row_in is ∙ ap (mark_by form row) (sym at.2) ∙ mark_offset form row side at.0 ∙ same at.0 o_in ∙ sym (mark_offset form other side at.0) ∙ ap (mark_by form other) at.2 ∙ sym (has_form.mark other end other_in is))

  pub chosen_fewer : (row : ℕ) (old new : List PlainMarks) → IsChosen form places row old new → AreFewer old new
  chosen_fewer row old new is x m h = elim (decide places x) [
    | inl found ↦
        let w = (is.exact found.0 m found.1).0 (subst (λ (y : ℕ). has (marks_at new y) m ≡ true) (sym found.2) h) in
        subst (λ (y : ℕ). has (marks_at old y) m ≡ true) found.2 w.0
    | inr none ↦ subst (λ (s : PlainMarks). has s m ≡ true) (is.elsewhere.others x none) h
  ]

  pub chosen_taken : (row : ℕ) (old new : List PlainMarks) → IsChosen form places row old new → IsTakenAt net inside (row_place k) old new
  chosen_taken row old new is = record {
    one_each = is.elsewhere.one_each;
    fewer = chosen_fewer row old new is;
    number = row;
    least = λ rows rival fits. is.first.least (slice_index rows k) (fits_stands old rows rival fits);
    stay = λ rows rival fits same. stands_fits old rows rival fits new is.elsewhere (record {
      plain = (fits_stands old rows rival fits).plain;
      each = λ o lt. (is.exact o (mark_by form (slice_index rows k) o) lt).1 ((fits_stands old rows rival fits).each o lt, ap (λ (r : ℕ). mark_by form r o) (sym same));
    });
    only = λ rows rival fits.
        let stands = fits_stands new rows rival fits in
        one_row (slice_index rows k) row (in_table rows rival) (subst (λ (n : ℕ). row < n) (sym has_form.rows) (omega (arith, is.first.plain))) (λ o lt. sym ((is.exact o (mark_by form (slice_index rows k) o) lt).0 (stands.each o lt)).1);
  }

  -- A row that is left alone is that of each rival, and has its class.
  pub fixed_taken : (turn row : ℕ) (sets : List PlainMarks) → IsChosen form places row sets sets → IsTakenAt net inside (class_place net turn k) sets sets
  unfolding chosen_taken
  fixed_taken turn row sets is = record {
    one_each = refl;
    fewer = λ x m h. h;
    number = class_by form row turn;
    least = λ rows rival fits. let e = same rows rival fits in omega (arith, e);
    stay = λ rows rival fits _. fits;
    only = same;
  }
    where
      same : (rows : List ℕ) → IsRival net inside rows → Fits net inside sets rows → number_of (class_place net turn k) rows ≡ class_by form row turn
      same rows rival fits = class_here turn rows rival ∙ ap (λ (r : ℕ). class_by form r turn) ((chosen_taken row sets sets is).only rows rival fits)
