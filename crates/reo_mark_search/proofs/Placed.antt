-- The places of ends.
use Rattle.std.proofs.Common.{◌≡◌, ◌≢◌, ◌⊎◌, inl, inr, ℕ, zero, suc, ◌+◌, ◌-◌, ◌*◌, ◌%◌, ◌<◌, Bool, cond, List, [], ◌∷◌, length, slice_index, slice_index_or, refl, sym, ap, ◌∙◌, subst, arith}
use Rattle.std.specs.Prelude.{Contains}
use Rattle.std.proofs.lemmas.Bool.{cases_eq, eq-eqb, ne_eqb}
use Rattle.reo_net_base.specs.declared.form.Form.{Form}
use Rattle.reo_net_base.specs.declared.form.Form.TheVariants.{Single, Double, Merging, Replicating}
use Rattle.reo_net_base.specs.declared.joint.End.{End}
use Rattle.reo_net_base.specs.declared.joint.Joint.{Joint}
use Rattle.reo_net_base.specs.Behaviour.{IsEndOf}
use Rattle.reo_net_base.specs.Forms.{HasForm, IsPlaceOf, mark_by}
use Rattle.reo_net_base.specs.Net.{Net, behaviour_at, end_of, side_at, first_side}
use Rattle.reo_net_base.specs.Wired.{IsWired, IsEnd}
use Rattle.reo_net_laws.proofs.Joined.{joint_of}
use Rattle.reo_net_laws.proofs.Orders.{no_joint}
use Rattle.reo_net_laws.proofs.Sides.{side_at_place}
use Rattle.reo_mark_sets.specs.PlainMarks.{partner}
use Rattle.reo_mark_sets.specs.Standing.{width_by}
use Rattle.reo_mark_search.specs.Spots.{spot_of, AreSpots, end_by, AreEndsOf}

-- The other end of a joint.
pub partner_even : (j : ℕ) → partner (2 * j) ≡ 2 * j + 1
partner_even j = ap (λ (t : Bool). cond t (2 * j + 1) (2 * j - 1)) (eq-eqb (2 * j % 2) 0 (omega arith))

pub partner_odd : (j : ℕ) → partner (2 * j + 1) ≡ 2 * j
partner_odd j = ap (λ (t : Bool). cond t (2 * j + 1 + 1) (2 * j + 1 - 1)) (ne_eqb ((2 * j + 1) % 2) 0 (λ e. omega (arith, e))) ∙ omega arith

-- The ends of a form.
pub place_in : (form : Form) (side o : ℕ) → o < width_by form → IsPlaceOf form side (end_by form side o)
place_in (Single table) side o lt = refl
place_in (Double table) side o lt = lt
place_in (Merging branches) side o lt = lt
place_in (Replicating branches) side o lt = lt

pub offset_of : (form : Form) (side end : ℕ) → IsPlaceOf form side end → (o : ℕ) × (o < width_by form) × (end_by form side o ≡ end)
offset_of (Single table) side end is = (0, omega arith, sym is)
offset_of (Double table) side end is = (end, is, refl)
offset_of (Merging branches) side end is = (end, is, refl)
offset_of (Replicating branches) side end is = (end, is, refl)

end_once : (form : Form) (side o p : ℕ) → o < width_by form → p < width_by form → end_by form side o ≡ end_by form side p → o ≡ p
end_once (Single table) side o p o_in p_in same = omega arith
end_once (Double table) side o p o_in p_in same = same
end_once (Merging branches) side o p o_in p_in same = same
end_once (Replicating branches) side o p o_in p_in same = same

pub mark_offset : (form : Form) (row side o : ℕ) → mark_by form row (end_by form side o) ≡ mark_by form row o
mark_offset (Single table) row side o = refl
mark_offset (Double table) row side o = refl
mark_offset (Merging branches) row side o = refl
mark_offset (Replicating branches) row side o = refl

-- Whether a list has a number.
pub decide : (xs : List ℕ) (x : ℕ) → ((o : ℕ) × (o < length xs) × (slice_index xs o ≡ x)) ⊎ (Contains xs x → ⊥)
decide xs x = by xs
  where
    by : (xs : List ℕ) → ((o : ℕ) × (o < length xs) × (slice_index xs o ≡ x)) ⊎ (Contains xs x → ⊥)
    by [] = inr (λ c. omega (arith, c.1))
    by (y ∷ ys) = elim (cases_eq y x) [
      | inl e ↦ inl (zero, omega arith, e)
      | inr ne ↦ elim (by ys) [
        | inl found ↦ inl (suc found.0, omega (arith, found.1), found.2)
        | inr none ↦ inr (λ c. later c.0 c.1 c.2 ne none)
      ]
    ]
      where
        later : (o : ℕ) → o < length (y ∷ ys) → slice_index_or (y ∷ ys) o x ≡ x → y ≢ x → (Contains ys x → ⊥) → ⊥
        later zero lt e ne none = ne e
        later (suc o) lt e ne none = none (o, omega arith, e)

module _ (net : Net) (wired : IsWired net) (spots : List (List ℕ)) (are : AreSpots net spots) where
  abbrev joint_at : ℕ → Joint
  joint_at j = slice_index_or net.joints j no_joint

  -- The joint of an end, and its place.
  pub record HasSpot (e : End) : Type 0 where
    pub joint : ℕ
    pub in_range : joint < length net.joints
    pub way : (((joint_at joint).giver ≡ e) × (spot_of spots e ≡ 2 * joint)) ⊎ (((joint_at joint).taker ≡ e) × (spot_of spots e ≡ 2 * joint + 1))

  pub spot_is : (e : End) → IsEnd net.primitives e → HasSpot e
  spot_is e e_in =
      let found = joint_of net wired e e_in in
      record {
        joint = found.0;
        in_range = found.1;
        way = elim (found.2 no_joint) [
          | inl g ↦ inl (g, ap (spot_of spots) (sym g) ∙ are.giver found.0 no_joint found.1)
          | inr t ↦ inr (t, ap (spot_of spots) (sym t) ∙ are.taker found.0 no_joint found.1)
        ];
      }

  spot_below : (e : End) → IsEnd net.primitives e → (spot_of spots e < 2 * length net.joints) × (partner (spot_of spots e) < 2 * length net.joints)
  spot_below e e_in =
      let s = spot_is e e_in in
      let lt : s.joint < length net.joints = s.in_range in
      elim s.way [
        | inl g ↦ (omega (arith, g.1, lt), subst (λ (x : ℕ). x < 2 * length net.joints) (sym (ap partner g.1 ∙ partner_even s.joint)) (omega (arith, lt)))
        | inr t ↦ (omega (arith, t.1, lt), subst (λ (x : ℕ). x < 2 * length net.joints) (sym (ap partner t.1 ∙ partner_odd s.joint)) (omega (arith, lt)))
      ]

  pub spot_once : (e f : End) → IsEnd net.primitives e → IsEnd net.primitives f → spot_of spots e ≡ spot_of spots f → e ≡ f
  spot_once e f e_in f_in same =
      let s = spot_is e e_in in
      let t = spot_is f f_in in
      elim s.way [
        | inl g ↦ elim t.way [
          | inl h ↦ let j : s.joint ≡ t.joint = omega (arith, g.1, h.1, same) in sym g.0 ∙ ap (λ (x : ℕ). (joint_at x).giver) j ∙ h.0
          | inr h ↦ absurd (omega (arith, g.1, h.1, same))
        ]
        | inr g ↦ elim t.way [
          | inl h ↦ absurd (omega (arith, g.1, h.1, same))
          | inr h ↦ let j : s.joint ≡ t.joint = omega (arith, g.1, h.1, same) in sym g.0 ∙ ap (λ (x : ℕ). (joint_at x).taker) j ∙ h.0
        ]
      ]

  spot_apart : (e f : End) → IsEnd net.primitives e → IsEnd net.primitives f → partner (spot_of spots e) ≡ spot_of spots f → side_at net e ≢ side_at net f
  spot_apart e f e_in f_in same one_side =
      let s = spot_is e e_in in
      let t = spot_is f f_in in
      elim s.way [
        | inl g ↦
            let p : partner (spot_of spots e) ≡ 2 * s.joint + 1 = ap partner g.1 ∙ partner_even s.joint in
            elim t.way [
              | inl h ↦ omega (arith, p, h.1, same)
              | inr h ↦
                  let j : s.joint ≡ t.joint = omega (arith, p, h.1, same) in
                  wired.apart s.joint no_joint s.in_range (ap (side_at net) g.0 ∙ one_side ∙ sym (ap (side_at net) h.0) ∙ ap (λ (x : ℕ). side_at net (joint_at x).taker) (sym j))
            ]
        | inr g ↦
            let p : partner (spot_of spots e) ≡ 2 * s.joint = ap partner g.1 ∙ partner_odd s.joint in
            elim t.way [
              | inl h ↦
                  let j : t.joint ≡ s.joint = omega (arith, p, h.1, same) in
                  wired.apart t.joint no_joint t.in_range (ap (side_at net) h.0 ∙ sym one_side ∙ sym (ap (side_at net) g.0) ∙ ap (λ (x : ℕ). side_at net (joint_at x).taker) (sym j))
              | inr h ↦ omega (arith, p, h.1, same)
            ]
      ]

  -- The ends of a side of a form.
  module _ (i side : ℕ) (i_in : i < length net.primitives) (form : Form) (has_form : HasForm form (behaviour_at net.primitives i) side) where
    abbrev end_at : ℕ → End
    end_at o = end_of i (end_by form side o)

    pub end_is : (o : ℕ) → o < width_by form → IsEndOf (behaviour_at net.primitives i) side (end_by form side o)
    end_is o lt = (has_form.ends (end_by form side o)).1 (place_in form side o lt)

    pub end_in : (o : ℕ) → o < width_by form → IsEnd net.primitives (end_at o)
    end_in o lt = (i_in, (end_is o lt).0)

    pub end_side : (o : ℕ) → o < width_by form → side_at net (end_at o) ≡ first_side net.primitives i + side
    end_side o lt = side_at_place net (end_at o) ∙ ap (λ (s : ℕ). first_side net.primitives i + s) (end_is o lt).1

    pub ends_are : (places : List ℕ) → length places ≡ width_by form → ((o : ℕ) → o < length places → slice_index places o ≡ spot_of spots (end_at o)) → AreEndsOf net spots i side form places
    ends_are places width each =
        let inner : (o : ℕ) → o < length places → o < width_by form = λ o lt. omega (arith, lt, width) in
        record {
          width = width;
          each = each;
          are = record {
            in_range = λ o lt. subst (λ (x : ℕ). x < 2 * length net.joints) (sym (each o lt)) (spot_below (end_at o) (end_in o (inner o lt))).0;
            partner_in = λ o lt. subst (λ (x : ℕ). partner x < 2 * length net.joints) (sym (each o lt)) (spot_below (end_at o) (end_in o (inner o lt))).1;
            once = λ o p o_in p_in same.
                end_once form side o p (inner o o_in) (inner p p_in)
                (ap (λ (e : End). e.end) (spot_once (end_at o) (end_at p) (end_in o (inner o o_in)) (end_in p (inner p p_in)) (sym (each o o_in) ∙ same ∙ each p p_in)));
            apart = λ o p o_in p_in same.
                spot_apart (end_at o) (end_at p) (end_in o (inner o o_in)) (end_in p (inner p p_in)) (ap partner (sym (each o o_in)) ∙ same ∙ each p p_in)
                (end_side o (inner o o_in) ∙ sym (end_side p (inner p p_in)));
          };
        }

-- A part of the places of a primitive.
module _ (net : Net) (wired : IsWired net) (spots : List (List ℕ)) (are : AreSpots net spots) (i side : ℕ) (i_in : i < length net.primitives) (form : Form) (has_form : HasForm form (behaviour_at net.primitives i) side)
    (all : List ℕ) (all_is : all ≡ slice_index_or spots i []) where
  -- There is a place for each end.
  pub room : (o : ℕ) → o < width_by form → end_by form side o < length all
  room o lt =
      let is = (end_is net wired spots are i side i_in form has_form o lt).0 in
      let count : length all ≡ (behaviour_at net.primitives i).ends = ap (λ (xs : List ℕ). length xs) all_is ∙ are.one_each i i_in in
      omega (arith, is, count)

  pub placed_at : (places : List ℕ) (from : ℕ) → ((o : ℕ) → o < width_by form → from + o ≡ end_by form side o) → length places ≡ width_by form
      → ((o : ℕ) → o < length places → slice_index places o ≡ slice_index all (from + o)) → AreEndsOf net spots i side form places
  placed_at places from starts width each =
      ends_are net wired spots are i side i_in form has_form places width (λ o lt.
      each o lt ∙ ap (slice_index all) (starts o (omega (arith, lt, width))) ∙ ap (λ (xs : List ℕ). slice_index xs (end_by form side o)) all_is)
