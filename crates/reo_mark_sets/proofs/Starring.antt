-- Which rows of mergers and replicators work.
use Rattle.std.proofs.Common.{◌≡◌, ◌≢◌, ◌⊎◌, inl, inr, ◌↔◌, ℕ, ◌<◌, ◌≤◌, ◌||◌, not, Bool, true, false, IsTrue, cond, List, length, slice_index, refl, sym, ap, ◌∙◌, subst, arith}
use Rattle.std.specs.Bool.{◌==◌}
use Rattle.std.proofs.lemmas.Bool.{cases_eq, cases_Bool, and_parts, and_from, eqb-true, eq-eqb, ne_eqb, or_cases}
use Rattle.reo_net_base.specs.declared.mark.Mark.{Mark}
use Rattle.reo_net_base.specs.declared.mark.Mark.TheVariants.{F, G, R, J}
use Rattle.reo_net_base.specs.Rows.{alike}
use Rattle.reo_mark_sets.specs.declared.marks.PlainMarks.{PlainMarks}
use Rattle.reo_mark_sets.specs.declared.tallies.Multiplicity.{Multiplicity}
use Rattle.reo_mark_sets.specs.declared.tallies.Multiplicity.TheVariants.{Nowhere, Once, Often}
use Rattle.reo_mark_sets.specs.declared.stars.Star.{Star}
use Rattle.reo_mark_sets.specs.declared.stars.Star.TheVariants.{Merger, Replicator}
use Rattle.reo_mark_sets.specs.PlainMarks.{has, marks_at, open_at}
use Rattle.reo_mark_sets.specs.Standing.{AreElsewhere}
use Rattle.reo_mark_sets.specs.Stars.{apart_mark, center_apart, other_mark, center_other, kind_mark, IsKind, IsStar, KindWorks, AreAparts, IsStarNarrowed, may_be, may_another, may_some, center_left, spoke_left}
use Rattle.reo_mark_sets.specs.Stars.Kind.{apart, rest, other}
use Rattle.reo_mark_sets.specs.Stars.{Kind}
use Rattle.reo_mark_sets.specs.Tallies.{IsTally, HoldsOften}
pub use Rattle.std.proofs.lemmas.Bool.{or_left, or_right}

not_false : (b : Bool) → alike false b ≡ false → b ≡ true
not_false true h = refl
not_false false h = cc

not_true : (b : Bool) → alike false b ≡ true → b ≡ false
not_true true h = cc
not_true false h = refl

-- The marks of a kind of row, by where they stand.
abbrev pub center_of : Star → Kind → Mark
center_of star (apart x) = center_apart star
center_of star rest = R
center_of star other = center_other star

abbrev pub spoke_of : Star → Kind → ℕ → Mark
spoke_of star (apart x) o = cond (o == x) (apart_mark star) G
spoke_of star rest o = G
spoke_of star other o = other_mark star

pub center_is : (star : Star) (center : ℕ) (kind : Kind) (o : ℕ) → o ≡ center → kind_mark star center kind o ≡ center_of star kind
center_is star center (apart x) o e = ap (λ (t : Bool). cond t (center_apart star) (cond (o == x) (apart_mark star) G)) (eq-eqb o center e)
center_is star center rest o e = ap (λ (t : Bool). cond t R G) (eq-eqb o center e)
center_is star center other o e = ap (λ (t : Bool). cond t (center_other star) (other_mark star)) (eq-eqb o center e)

pub spoke_is : (star : Star) (center : ℕ) (kind : Kind) (o : ℕ) → o ≢ center → kind_mark star center kind o ≡ spoke_of star kind o
spoke_is star center (apart x) o e = ap (λ (t : Bool). cond t (center_apart star) (cond (o == x) (apart_mark star) G)) (ne_eqb o center e)
spoke_is star center rest o e = ap (λ (t : Bool). cond t R G) (ne_eqb o center e)
spoke_is star center other o e = ap (λ (t : Bool). cond t (center_other star) (other_mark star)) (ne_eqb o center e)

-- What is left at the center, mark by mark.
center_left_has : (star : Star) (a : Multiplicity) (r o : Bool) (mark : Mark) → has (center_left star a r o) mark ≡ true
    → ((may_some a ≡ true) × (center_apart star ≡ mark)) ⊎ (((r ≡ true) × (R ≡ mark)) ⊎ ((o ≡ true) × (center_other star ≡ mark)))
center_left_has Merger a r o F h = inl (h, refl)
center_left_has Merger a r o G h = inr (inr (h, refl))
center_left_has Merger a r o R h = inr (inl (h, refl))
center_left_has Merger a r o J h = cc
center_left_has Replicator a r o F h = inr (inr (h, refl))
center_left_has Replicator a r o G h = inl (h, refl)
center_left_has Replicator a r o R h = inr (inl (h, refl))
center_left_has Replicator a r o J h = cc

center_left_apart : (star : Star) (a : Multiplicity) (r o : Bool) → may_some a ≡ true → has (center_left star a r o) (center_apart star) ≡ true
center_left_apart Merger a r o h = h
center_left_apart Replicator a r o h = h

center_left_rest : (star : Star) (a : Multiplicity) (r o : Bool) → r ≡ true → has (center_left star a r o) R ≡ true
center_left_rest Merger a r o h = h
center_left_rest Replicator a r o h = h

center_left_other : (star : Star) (a : Multiplicity) (r o : Bool) → o ≡ true → has (center_left star a r o) (center_other star) ≡ true
center_left_other Merger a r o h = h
center_left_other Replicator a r o h = h

-- And at another end.
spoke_left_has : (star : Star) (a : Multiplicity) (r o : Bool) (marks : PlainMarks) (e : ℕ) (mark : Mark) → has (spoke_left star a r o marks e) mark ≡ true
    → ((may_be a e ≡ true) × (has marks (apart_mark star) ≡ true) × (apart_mark star ≡ mark)) ⊎ (((r ≡ true) × (G ≡ mark)) ⊎ (((may_another a e ≡ true) × (G ≡ mark)) ⊎ ((o ≡ true) × (other_mark star ≡ mark))))
spoke_left_has Merger a r o marks e F h = let both = and_parts (may_be a e) marks.flow h in inl (both.0, both.1, refl)
spoke_left_has Merger a r o marks e G h = elim (or_cases r (may_another a e) h) [ inl x ↦ inr (inl (x, refl)) | inr y ↦ inr (inr (inl (y, refl))) ]
spoke_left_has Merger a r o marks e R h = inr (inr (inr (h, refl)))
spoke_left_has Merger a r o marks e J h = cc
spoke_left_has Replicator a r o marks e F h = inr (inr (inr (h, refl)))
spoke_left_has Replicator a r o marks e G h = elim (or_cases r (may_another a e) h) [ inl x ↦ inr (inl (x, refl)) | inr y ↦ inr (inr (inl (y, refl))) ]
spoke_left_has Replicator a r o marks e R h = let both = and_parts (may_be a e) marks.required h in inl (both.0, both.1, refl)
spoke_left_has Replicator a r o marks e J h = cc

spoke_left_apart : (star : Star) (a : Multiplicity) (r o : Bool) (marks : PlainMarks) (e : ℕ) → may_be a e ≡ true → has marks (apart_mark star) ≡ true → has (spoke_left star a r o marks e) (apart_mark star) ≡ true
spoke_left_apart Merger a r o marks e x y = and_from (may_be a e) marks.flow x y
spoke_left_apart Replicator a r o marks e x y = and_from (may_be a e) marks.required x y

spoke_left_beside : (star : Star) (a : Multiplicity) (r o : Bool) (marks : PlainMarks) (e : ℕ) → (r || may_another a e) ≡ true → has (spoke_left star a r o marks e) G ≡ true
spoke_left_beside Merger a r o marks e h = h
spoke_left_beside Replicator a r o marks e h = h

spoke_left_other : (star : Star) (a : Multiplicity) (r o : Bool) (marks : PlainMarks) (e : ℕ) → o ≡ true → has (spoke_left star a r o marks e) (other_mark star) ≡ true
spoke_left_other Merger a r o marks e h = h
spoke_left_other Replicator a r o marks e h = h

module _ (star : Star) (center from to : ℕ) (places : List ℕ) (sets : List PlainMarks) (is : IsStar (length places) center from to) where
  abbrev left : ℕ → PlainMarks
  left o = open_at sets (slice_index places o)

  abbrev Works : Kind → Type 0
  Works kind = KindWorks star center from to places sets kind

  away : (o : ℕ) → from ≤ o → o < to → o ≢ center
  away o le lt e = is.outside o le lt e

  works_from : (kind : Kind) → IsKind from to kind → has (left center) (center_of star kind) ≡ true → ((o : ℕ) → from ≤ o → o < to → has (left o) (spoke_of star kind o) ≡ true) → Works kind
  works_from kind is_kind here there = record {
    is_kind = is_kind;
    each = λ o lt. elim (is.all o lt) [
      | inl e ↦ subst (λ (m : Mark). has (left o) m ≡ true) (sym (center_is star center kind o e)) (subst (λ (c : ℕ). has (left c) (center_of star kind) ≡ true) (sym e) here)
      | inr h ↦ subst (λ (m : Mark). has (left o) m ≡ true) (sym (spoke_is star center kind o (away o h.0 h.1))) (there o h.0 h.1)
    ];
  }

  works_center : (kind : Kind) → Works kind → has (left center) (center_of star kind) ≡ true
  works_center kind w = subst (λ (m : Mark). has (left center) m ≡ true) (center_is star center kind center refl) (w.each center is.center_in)

  works_spoke : (kind : Kind) → Works kind → (o : ℕ) → from ≤ o → o < to → has (left o) (spoke_of star kind o) ≡ true
  works_spoke kind w o le lt = subst (λ (m : Mark). has (left o) m ≡ true) (spoke_is star center kind o (away o le lt)) (w.each o (omega (arith, lt, is.spokes_in)))

  -- A row whose marks are one at all ends but the center works where all of them are open.
  pub all_works : (kind : Kind) → IsKind from to kind → (mark : Mark) → ((o : ℕ) → spoke_of star kind o ≡ mark) → (b : Bool) → IsTrue b ↔ ((o : ℕ) → from ≤ o → o < to → has (left o) mark ≡ true)
      → has (left center) (center_of star kind) ≡ true → IsTrue b ↔ Works kind
  all_works kind is_kind mark spokes b all here = (
    λ t. works_from kind is_kind here (λ o le lt. subst (λ (m : Mark). has (left o) m ≡ true) (sym (spokes o)) (all.0 t o le lt)),
    λ w. all.1 (λ o le lt. subst (λ (m : Mark). has (left o) m ≡ true) (spokes o) (works_spoke kind w o le lt)),
  )

  pub none_works : (kind : Kind) → has (left center) (center_of star kind) ≡ false → Works kind → ⊥
  none_works kind not_here w = let here = works_center kind w in cc

  -- The mark of the end that is apart.
  apart_has : (x : ℕ) → Works (apart x) → has (left x) (apart_mark star) ≡ true
  apart_has x w = subst (λ (t : Bool). has (left x) (cond t (apart_mark star) G) ≡ true) (eq-eqb x x refl) (works_spoke (apart x) w x w.is_kind.0 w.is_kind.1)

  beside_has : (x : ℕ) → Works (apart x) → (o : ℕ) → from ≤ o → o < to → o ≢ x → has (left o) G ≡ true
  beside_has x w o le lt ne = subst (λ (t : Bool). has (left o) (cond t (apart_mark star) G) ≡ true) (ne_eqb o x ne) (works_spoke (apart x) w o le lt)

  apart_from : (x : ℕ) → from ≤ x → x < to → has (left center) (center_apart star) ≡ true → has (left x) (apart_mark star) ≡ true → ((o : ℕ) → from ≤ o → o < to → o ≢ x → has (left o) G ≡ true) → Works (apart x)
  apart_from x le lt here there beside = works_from (apart x) (le, lt) here (λ o o_le o_lt. elim (cases_eq o x) [
    | inl e ↦ subst (λ (t : Bool). has (left o) (cond t (apart_mark star) G) ≡ true) (sym (eq-eqb o x e)) (subst (λ (y : ℕ). has (left y) (apart_mark star) ≡ true) (sym e) there)
    | inr ne ↦ subst (λ (t : Bool). has (left o) (cond t (apart_mark star) G) ≡ true) (sym (ne_eqb o x ne)) (beside o o_le o_lt ne)
  ])

  module _ (here : has (left center) (center_apart star) ≡ true) where
    pub aparts_all : (t : Multiplicity) → ((o : ℕ) → from ≤ o → o < to → alike false (has (left o) G) ≡ false) → IsTally (λ o. alike true (has (left o) (apart_mark star))) from to t → AreAparts star center from to places sets t
    aparts_all Nowhere all tally = λ x w. let there : has (left x) (apart_mark star) ≡ false = tally x w.is_kind.0 w.is_kind.1 in let yet = apart_has x w in cc
    aparts_all (Once i) all tally = (
      apart_from i tally.after tally.in_range here tally.here (λ o le lt ne. not_false (has (left o) G) (all o le lt)),
      λ x w. tally.alone x w.is_kind.0 w.is_kind.1 (apart_has x w),
    )
    aparts_all Often all tally = (
      λ x le lt there. apart_from x le lt here there (λ o o_le o_lt ne. not_false (has (left o) G) (all o o_le o_lt)),
      record { one = tally.one; other = tally.other; after = tally.after; before = tally.before; in_range = tally.in_range; here = tally.here; there = tally.there },
    )

    module _ (i : ℕ) (tally : IsTally (λ o. alike false (has (left o) G)) from to (Once i)) where
      beside_one : (o : ℕ) → from ≤ o → o < to → o ≢ i → has (left o) G ≡ true
      beside_one o le lt ne = elim (cases_Bool (has (left o) G)) [
        | inl holds ↦ holds
        | inr fails ↦ absurd (ne (tally.alone o le lt (ap (alike false) fails)))
      ]

      only_one : (x : ℕ) → Works (apart x) → x ≡ i
      only_one x w = elim (cases_eq x i) [
        | inl e ↦ e
        | inr ne ↦
            let there : has (left i) G ≡ true = beside_has x w i tally.after tally.in_range (λ e. ne (sym e)) in
            let mute : has (left i) G ≡ false = not_true (has (left i) G) tally.here in
            absurd (cc)
      ]

      pub aparts_one : has (left i) (apart_mark star) ≡ true → AreAparts star center from to places sets (Once i)
      aparts_one there = (apart_from i tally.after tally.in_range here there beside_one, only_one)

      pub aparts_none : has (left i) (apart_mark star) ≡ false → (x : ℕ) → Works (apart x) → ⊥
      aparts_none fails x w =
          let e : x ≡ i = only_one x w in
          let there : has (left i) (apart_mark star) ≡ true = subst (λ (y : ℕ). has (left y) (apart_mark star) ≡ true) e (apart_has x w) in
          cc

    pub aparts_often : HoldsOften (λ o. alike false (has (left o) G)) from to → (x : ℕ) → Works (apart x) → ⊥
    aparts_often tally x w = elim (cases_eq tally.one x) [
      | inl e ↦
          let there : has (left tally.other) G ≡ true = beside_has x w tally.other (omega (arith, tally.after, tally.before)) tally.in_range (λ f. omega (arith, tally.before, e, f)) in
          let mute : has (left tally.other) G ≡ false = not_true (has (left tally.other) G) tally.there in
          cc
      | inr ne ↦
          let there : has (left tally.one) G ≡ true = beside_has x w tally.one tally.after (omega (arith, tally.before, tally.in_range)) ne in
          let mute : has (left tally.one) G ≡ false = not_true (has (left tally.one) G) tally.here in
          cc
    ]

  -- What is left, and which rows work.
  module _ (aparts : Multiplicity) (rests others : Bool) (are : AreAparts star center from to places sets aparts) (rest_is : IsTrue rests ↔ Works rest) (other_is : IsTrue others ↔ Works other) where
    some_apart : (t : Multiplicity) → AreAparts star center from to places sets t → may_some t ≡ true → (x : ℕ) × Works (apart x)
    some_apart Nowhere a h = cc
    some_apart (Once i) a h = (i, a.0)
    some_apart Often a h = (a.1.one, a.0 a.1.one a.1.after (omega (arith, a.1.before, a.1.in_range)) a.1.here)

    apart_some : (t : Multiplicity) → AreAparts star center from to places sets t → (x : ℕ) → Works (apart x) → may_some t ≡ true
    apart_some Nowhere a x w = absurd (a x w)
    apart_some (Once i) a x w = refl
    apart_some Often a x w = refl

    here_apart : (t : Multiplicity) → AreAparts star center from to places sets t → (o : ℕ) → from ≤ o → o < to → may_be t o ≡ true → has (left o) (apart_mark star) ≡ true → Works (apart o)
    here_apart Nowhere a o le lt h there = cc
    here_apart (Once i) a o le lt h there = subst (λ (x : ℕ). Works (apart x)) (eqb-true i o h) a.0
    here_apart Often a o le lt h there = a.0 o le lt there

    apart_here : (t : Multiplicity) → AreAparts star center from to places sets t → (o : ℕ) → Works (apart o) → may_be t o ≡ true
    apart_here Nowhere a o w = absurd (a o w)
    apart_here (Once i) a o w = eq-eqb i o (sym (a.1 o w))
    apart_here Often a o w = refl

    another_apart : (t : Multiplicity) → AreAparts star center from to places sets t → (o : ℕ) → may_another t o ≡ true → (x : ℕ) × Works (apart x) × (o ≢ x)
    another_apart Nowhere a o h = cc
    another_apart (Once i) a o h = (i, a.0, λ e. let same : (i == o) ≡ true = eq-eqb i o (sym e) in let not_same : not true ≡ true = subst (λ (t : Bool). not t ≡ true) same h in cc)
    another_apart Often a o h = elim (cases_eq a.1.one o) [
      | inl e ↦ (a.1.other, a.0 a.1.other (omega (arith, a.1.after, a.1.before)) a.1.in_range a.1.there, λ f. omega (arith, a.1.before, e, f))
      | inr ne ↦ (a.1.one, a.0 a.1.one a.1.after (omega (arith, a.1.before, a.1.in_range)) a.1.here, λ f. ne (sym f))
    ]

    apart_another : (t : Multiplicity) → AreAparts star center from to places sets t → (x o : ℕ) → Works (apart x) → o ≢ x → may_another t o ≡ true
    apart_another Nowhere a x o w ne = absurd (a x w)
    apart_another (Once i) a x o w ne = ap not (ne_eqb i o (λ e. ne (sym (a.1 x w ∙ e))))
    apart_another Often a x o w ne = refl

    center_has : (mark : Mark) → has (center_left star aparts rests others) mark ≡ true → (kind : Kind) × Works kind × (center_of star kind ≡ mark)
    center_has mark h = elim (center_left_has star aparts rests others mark h) [
      | inl x ↦ let one = some_apart aparts are x.0 in (apart one.0, one.1, x.1)
      | inr y ↦ elim y [
        | inl x ↦ (rest, rest_is.0 x.0, x.1)
        | inr x ↦ (other, other_is.0 x.0, x.1)
      ]
    ]

    has_center : (kind : Kind) → Works kind → has (center_left star aparts rests others) (center_of star kind) ≡ true
    has_center (apart x) w = center_left_apart star aparts rests others (apart_some aparts are x w)
    has_center rest w = center_left_rest star aparts rests others (rest_is.1 w)
    has_center other w = center_left_other star aparts rests others (other_is.1 w)

    module _ (o : ℕ) (le : from ≤ o) (lt : o < to) where
      spoke_has : (mark : Mark) → has (spoke_left star aparts rests others (left o) o) mark ≡ true → (kind : Kind) × Works kind × (spoke_of star kind o ≡ mark)
      spoke_has mark h = elim (spoke_left_has star aparts rests others (left o) o mark h) [
        | inl x ↦ (apart o, here_apart aparts are o le lt x.0 x.1, ap (λ (t : Bool). cond t (apart_mark star) G) (eq-eqb o o refl) ∙ x.2)
        | inr y ↦ elim y [
          | inl x ↦ (rest, rest_is.0 x.0, x.1)
          | inr z ↦ elim z [
            | inl x ↦ let one = another_apart aparts are o x.0 in (apart one.0, one.1, ap (λ (t : Bool). cond t (apart_mark star) G) (ne_eqb o one.0 one.2) ∙ x.1)
            | inr x ↦ (other, other_is.0 x.0, x.1)
          ]
        ]
      ]

      has_spoke : (kind : Kind) → Works kind → has (spoke_left star aparts rests others (left o) o) (spoke_of star kind o) ≡ true
      has_spoke (apart x) w = elim (cases_eq o x) [
        | inl e ↦
            let w_o : Works (apart o) = subst (λ (y : ℕ). Works (apart y)) (sym e) w in
            subst (λ (t : Bool). has (spoke_left star aparts rests others (left o) o) (cond t (apart_mark star) G) ≡ true) (sym (eq-eqb o x e))
            (spoke_left_apart star aparts rests others (left o) o (apart_here aparts are o w_o) (apart_has o w_o))
        | inr ne ↦
            subst (λ (t : Bool). has (spoke_left star aparts rests others (left o) o) (cond t (apart_mark star) G) ≡ true) (sym (ne_eqb o x ne))
            (spoke_left_beside star aparts rests others (left o) o (or_right rests (may_another aparts o) (apart_another aparts are x o w ne)))
      ]
      has_spoke rest w = spoke_left_beside star aparts rests others (left o) o (or_left rests (may_another aparts o) (rest_is.1 w))
      has_spoke other w = spoke_left_other star aparts rests others (left o) o (other_is.1 w)

    -- Just the marks of rows that work are left.
    pub star_exact : (new : List PlainMarks) → AreElsewhere places sets new → marks_at new (slice_index places center) ≡ center_left star aparts rests others
        → ((o : ℕ) → from ≤ o → o < to → marks_at new (slice_index places o) ≡ spoke_left star aparts rests others (left o) o)
        → IsStarNarrowed star center from to places sets new
    star_exact new elsewhere at_center at_spokes = record {
      elsewhere = elsewhere;
      exact = λ o mark o_in. elim (is.all o o_in) [
        | inl e ↦
            let here : marks_at new (slice_index places o) ≡ center_left star aparts rests others = ap (λ (c : ℕ). marks_at new (slice_index places c)) e ∙ at_center in (
              λ h. let found = center_has mark (subst (λ (m : PlainMarks). has m mark ≡ true) here h) in (found.0, found.1, center_is star center found.0 o e ∙ found.2),
              λ found. subst (λ (m : PlainMarks). has m mark ≡ true) (sym here) (subst (λ (x : Mark). has (center_left star aparts rests others) x ≡ true) (sym (center_is star center found.0 o e) ∙ found.2) (has_center found.0 found.1)),
            )
        | inr r ↦
            let here = at_spokes o r.0 r.1 in
            let ne = away o r.0 r.1 in (
              λ h. let found = spoke_has o r.0 r.1 mark (subst (λ (m : PlainMarks). has m mark ≡ true) here h) in (found.0, found.1, spoke_is star center found.0 o ne ∙ found.2),
              λ found. subst (λ (m : PlainMarks). has m mark ≡ true) (sym here) (subst (λ (x : Mark). has (spoke_left star aparts rests others (left o) o) x ≡ true) (sym (spoke_is star center found.0 o ne) ∙ found.2) (has_spoke o r.0 r.1 found.0 found.1)),
            )
      ];
    }

    -- Some row works exactly where something is left.
    pub star_some : (b : Bool) → b ≡ (rests || (others || may_some aparts)) → IsTrue b ↔ ((kind : Kind) × Works kind)
    star_some b same = (
      λ t. elim (or_cases rests (others || may_some aparts) (sym same ∙ t)) [
        | inl x ↦ (rest, rest_is.0 x)
        | inr y ↦ elim (or_cases others (may_some aparts) y) [
          | inl x ↦ (other, other_is.0 x)
          | inr x ↦ let one = some_apart aparts are x in (apart one.0, one.1)
        ]
      ],
      λ found. same ∙ some_true found.0 found.1,
    )
      where
        some_true : (kind : Kind) → Works kind → (rests || (others || may_some aparts)) ≡ true
        some_true (apart x) w = or_right rests (others || may_some aparts) (or_right others (may_some aparts) (apart_some aparts are x w))
        some_true rest w = or_left rests (others || may_some aparts) (rest_is.1 w)
        some_true other w = or_right rests (others || may_some aparts) (or_left others (may_some aparts) (other_is.1 w))

-- A test of marks that were read.
pub has_told : (m n : PlainMarks) (a b : Mark) (r t : Bool) → m ≡ n → a ≡ b → r ≡ has m a → r ≡ t → has n b ≡ t
has_told m n a b r t same mark is answer = (λ i. has (sym same i) (sym mark i)) ∙ sym is ∙ answer
