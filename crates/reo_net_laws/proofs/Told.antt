-- Rows are told by their marks, and classes by flow, no flow and jam.
use Rattle.std.proofs.Common.{◌≡◌, ◌≢◌, inl, inr, ℕ, ◌+◌, ◌<◌, Bool, true, length, get_or, refl, ap, sym, ◌∙◌, subst, arith}
use Rattle.reo_net_base.specs.declared.mark.Mark.{Mark}
use Rattle.reo_net_base.specs.declared.mark.Mark.TheVariants.{F, G, R, J}
use Rattle.reo_net_base.specs.declared.joint.End.{End}
use Rattle.reo_net_base.specs.declared.joint.Joint.{Joint}
use Rattle.reo_net_base.specs.Behaviour.{Behaviour, IsEndOf, IsPlainRow}
use Rattle.reo_net_base.specs.Lawful.{IsLawful}
use Rattle.reo_net_base.specs.Net.{Net, Side, all_sides, no_side, behaviour_at, end_of, side_at, side_of_end}
use Rattle.reo_net_base.specs.Wired.{IsWired, IsEnd}
use Rattle.reo_net_laws.specs.Ends.{mark_in, same_mark, same_kind, MarksAgree, RowsDiffer, ClassesDiffer}
use Rattle.reo_net_laws.proofs.Sides.{owner_of, owner_side, side_at_place, side_at_is}
use Rattle.reo_net_laws.proofs.Search.{eq_or}
use Rattle.reo_net_laws.proofs.Joined.{joint_of}

pub mark_is : (m n : Mark) → same_mark m n ≡ true → m ≡ n
mark_is F F h = refl
mark_is F G h = cc
mark_is F R h = cc
mark_is F J h = cc
mark_is G F h = cc
mark_is G G h = refl
mark_is G R h = cc
mark_is G J h = cc
mark_is R F h = cc
mark_is R G h = cc
mark_is R R h = refl
mark_is R J h = cc
mark_is J F h = cc
mark_is J G h = cc
mark_is J R h = cc
mark_is J J h = refl

pub mark_self : (m : Mark) → same_mark m m ≡ true
mark_self F = refl
mark_self G = refl
mark_self R = refl
mark_self J = refl

-- Marks of one kind.
kind_flows : (m n : Mark) → same_kind m n ≡ true → m ≡ F → n ≡ F
kind_flows F F h e = refl
kind_flows F G h e = cc
kind_flows F R h e = cc
kind_flows F J h e = cc
kind_flows G n h e = cc
kind_flows R n h e = cc
kind_flows J n h e = cc

kind_jams : (m n : Mark) → same_kind m n ≡ true → m ≡ J → n ≡ J
kind_jams J F h e = cc
kind_jams J G h e = cc
kind_jams J R h e = cc
kind_jams J J h e = refl
kind_jams F n h e = cc
kind_jams G n h e = cc
kind_jams R n h e = cc

kind_swap : (m n : Mark) → same_kind m n ≡ same_kind n m
kind_swap F F = refl
kind_swap F G = refl
kind_swap F R = refl
kind_swap F J = refl
kind_swap G F = refl
kind_swap G G = refl
kind_swap G R = refl
kind_swap G J = refl
kind_swap R F = refl
kind_swap R G = refl
kind_swap R R = refl
kind_swap R J = refl
kind_swap J F = refl
kind_swap J G = refl
kind_swap J R = refl
kind_swap J J = refl

one_kind : (m n : Mark) → (m ≡ F → n ≡ F) → (n ≡ F → m ≡ F) → m ≢ J → n ≢ J → same_kind m n ≡ true
one_kind F F f g h i = refl
one_kind F G f g h i = let e : G ≡ F = f refl in cc
one_kind F R f g h i = let e : R ≡ F = f refl in cc
one_kind m J f g h i = absurd (i refl)
one_kind G F f g h i = let e : G ≡ F = g refl in cc
one_kind G G f g h i = refl
one_kind G R f g h i = refl
one_kind R F f g h i = let e : R ≡ F = g refl in cc
one_kind R G f g h i = refl
one_kind R R f g h i = refl
one_kind J n f g h i = absurd (h refl)

-- Two rows of a side of a primitive that flow at the same ends and jam at the same ends.
abbrev AreOneKind : Behaviour → ℕ → ℕ → ℕ → Type 0
AreOneKind b side row other = (end : ℕ) → IsEndOf b side end → same_kind (b.mark side row end) (b.mark side other end) ≡ true

-- The jam row is of one kind with no other.
jam_alone : (b : Behaviour) → IsLawful b → (side row other : ℕ) → side < b.sides → row < b.rows side → other < b.rows side
    → AreOneKind b side row other → row + 1 ≡ b.rows side → other + 1 ≢ b.rows side → row ≡ other
jam_alone b lawful side row other side_in row_in other_in same last not_last = lawful.told_apart side row other side_in row_in other_in (λ end is.
    absurd (lawful.no_other_jam side other end side_in is (omega (arith, other_in, not_last)) (kind_jams (b.mark side row end) (b.mark side other end) (same end is) (lawful.jam_row side row end side_in is last))))

module _ (b : Behaviour) (lawful : IsLawful b) (side row other turn : ℕ) (side_in : side < b.sides) (row_in : row < b.rows side) (other_in : other < b.rows side) where
  class_same : AreOneKind b side row other → b.class side row turn ≡ b.class side other turn
  class_same same =
      let back : AreOneKind b side other row = λ end is. kind_swap (b.mark side other end) (b.mark side row end) ∙ same end is in
      let one : row ≡ other → b.class side row turn ≡ b.class side other turn = λ e. ap (λ (r : ℕ). b.class side r turn) e in
      elim (eq_or (row + 1) (b.rows side)) [
        | inl last ↦ elim (eq_or (other + 1) (b.rows side)) [
          | inl other_last ↦ one (omega (arith, last, other_last))
          | inr not_last ↦ one (jam_alone b lawful side row other side_in row_in other_in same last not_last)
        ]
        | inr not_last ↦ elim (eq_or (other + 1) (b.rows side)) [
          | inl other_last ↦ one (sym (jam_alone b lawful side other row side_in other_in row_in back other_last not_last))
          | inr other_not_last ↦
              lawful.same_class side row other turn side_in (omega (arith, row_in, not_last)) (omega (arith, other_in, other_not_last))
              (λ end is. kind_flows (b.mark side row end) (b.mark side other end) (same end is)) (λ end is. kind_flows (b.mark side other end) (b.mark side row end) (back end is))
        ]
      ]

  kind_same : b.class side row turn ≡ b.class side other turn → AreOneKind b side row other
  kind_same same end is =
      elim (eq_or (row + 1) (b.rows side)) [
        | inl last ↦ elim (eq_or (other + 1) (b.rows side)) [
          | inl other_last ↦ rw (lawful.jam_row side row end side_in is last, lawful.jam_row side other end side_in is other_last) refl
          | inr not_last ↦ let less = lawful.jam_last side other row turn side_in (omega (arith, other_in, not_last)) last in absurd (omega (arith, less, same))
        ]
        | inr not_last ↦
            let plain : IsPlainRow b side row = omega (arith, row_in, not_last) in
            elim (eq_or (other + 1) (b.rows side)) [
              | inl other_last ↦ let less = lawful.jam_last side row other turn side_in plain other_last in absurd (omega (arith, less, same))
              | inr other_not_last ↦
                  let other_plain : IsPlainRow b side other = omega (arith, other_in, other_not_last) in
                  one_kind (b.mark side row end) (b.mark side other end) (lawful.same_flow side row other turn side_in plain other_plain same end is) (lawful.same_flow side other row turn side_in other_plain plain (sym same) end is)
                  (lawful.no_other_jam side row end side_in is plain) (lawful.no_other_jam side other end side_in is other_plain)
            ]
      ]

-- From joints to the ends of a side, and back.
module _ (net : Net) (wired : IsWired net) (k : ℕ) (lt : k < length (all_sides net.primitives)) where
  -- The side of this number.
  abbrev side : Side
  side = get_or (all_sides net.primitives) k no_side

  -- The marks of two rows pass a test at each end of a side.
  abbrev EachEnd : (Mark → Mark → Bool) → ℕ → ℕ → Side → Type 0
  EachEnd test row other s = (end : ℕ) → IsEndOf s.of s.number end → test (s.of.mark s.number row end) (s.of.mark s.number other end) ≡ true

  lawful_side : IsLawful side.of
  lawful_side = let o = owner_of net.primitives k lt in rw (owner_side net.primitives k o no_side) (wired.lawful o.primitive o.primitive_in)

  side_in : side.number < side.of.sides
  side_in = let o = owner_of net.primitives k lt in rw (owner_side net.primitives k o no_side) o.number_in

  module _ (test : Mark → Mark → Bool) (row other : ℕ) where
    by_ends : MarksAgree net k test row other → EachEnd test row other side
    unfolding mark_in
    by_ends agree =
        let o = owner_of net.primitives k lt in
        let b : Behaviour = behaviour_at net.primitives o.primitive in
        subst (EachEnd test row other) (sym (owner_side net.primitives k o no_side)) (λ end is.
        let e : End = end_of o.primitive end in
        let place : side_at net e ≡ k = omega (arith, side_at_place net e, is.1, o.place) in
        let found = joint_of net wired e (o.primitive_in, is.0) in
        let none : Joint = record { giver = e; taker = e } in
        let here : test (mark_in net row e) (mark_in net other e) ≡ true =
        elim (found.2 none) [
          | inl g ↦ subst (λ (x : End). test (mark_in net row x) (mark_in net other x) ≡ true) g (agree.givers found.0 none found.1 (ap (side_at net) g ∙ place))
          | inr t ↦ subst (λ (x : End). test (mark_in net row x) (mark_in net other x) ≡ true) t (agree.takers found.0 none found.1 (ap (side_at net) t ∙ place))
        ] in
        subst (λ (s : ℕ). test (b.mark s row end) (b.mark s other end) ≡ true) is.1 here)

    at_end : EachEnd test row other side → (e : End) → IsEnd net.primitives e → side_at net e ≡ k → test (mark_in net row e) (mark_in net other e) ≡ true
    unfolding mark_in
    at_end each e is place =
        let same : side ≡ side_of_end net e = ap (λ (s : ℕ). get_or (all_sides net.primitives) s no_side) (sym place) ∙ side_at_is net wired e is no_side in
        subst (EachEnd test row other) same each e.end (is.1, refl)

    at_joints : EachEnd test row other side → MarksAgree net k test row other
    at_joints each = record {
      givers = λ j d j_in place. at_end each (get_or net.joints j d).giver (wired.givers j d j_in) place;
      takers = λ j d j_in place. at_end each (get_or net.joints j d).taker (wired.takers j d j_in) place;
    }

pub rows_told : RowsDiffer
rows_told net wired k row other lt row_in other_in = (
  λ agree. (lawful_side net wired k lt).told_apart (side net wired k lt).number row other (side_in net wired k lt) (row_in no_side) (other_in no_side)
      (λ end is. mark_is _ _ (by_ends net wired k lt same_mark row other agree end is)),
  λ same. at_joints net wired k lt same_mark row other (λ end is. subst (λ (r : ℕ). same_mark ((side net wired k lt).of.mark (side net wired k lt).number row end) ((side net wired k lt).of.mark (side net wired k lt).number r end) ≡ true) same (mark_self _)),
)

pub classes_told : ClassesDiffer
classes_told net wired turn k row other lt row_in other_in = (
  λ agree. class_same (side net wired k lt).of (lawful_side net wired k lt) (side net wired k lt).number row other turn (side_in net wired k lt) (row_in no_side) (other_in no_side) (by_ends net wired k lt same_kind row other agree),
  λ same. at_joints net wired k lt same_kind row other (kind_same (side net wired k lt).of (lawful_side net wired k lt) (side net wired k lt).number row other turn (side_in net wired k lt) (row_in no_side) (other_in no_side) same),
)
