-- An assignment keeps to the row at a place exactly where it has its number there.
use Rattle.std.proofs.Common.{◌≡◌, inl, inr, ◌↔◌, ℕ, ◌<◌, Bool, true, false, not, cond, ◌||◌, length, get_or, refl, ap, sym, ◌∙◌, subst}
use Rattle.std.specs.Bool.{◌==◌}
use Rattle.std.proofs.lemmas.List.{get_or_default}
use Rattle.reo_net_base.specs.declared.mark.Mark.{Mark}
use Rattle.reo_net_base.specs.declared.joint.Joint.{Joint}
use Rattle.reo_net_base.specs.Net.{Net, all_sides, side_at}
use Rattle.reo_net_base.specs.Wired.{IsWired}
use Rattle.reo_net_laws.specs.Ends.{mark_in, IsRowOf, MarksAgree}
use Rattle.reo_net_laws.proofs.Told.{rows_told, classes_told}
use Rattle.reo_joint_values.specs.declared.value.JointValue.{JointValue}
use Rattle.reo_joint_values.specs.Values.{Names, Choice, Family, giver_mark, taker_mark, no_joint, joint_of, giver_side, taker_side, AtSide}
use Rattle.reo_joint_values.specs.Fitting.{Fits}
use Rattle.reo_joint_values.specs.Supported.{IsWithin}
use Rattle.reo_joint_values.specs.Chosen.{IsChosen}
use Rattle.reo_side_tables.specs.Marks.{mark_at_joint}
use Rattle.reo_rows.specs.Stands.{value_mark}
use Rattle.reo_walk.specs.declared.place.KeyPlace.{KeyPlace}
use Rattle.reo_walk.specs.declared.place.KeyPlace.TheVariants.{Class, Row}
use Rattle.reo_walk.specs.Places.{side_of_place, number_of, suits, is_at_side, value_suits, held_to}
use Rattle.std.proofs.lemmas.Bool.{or_left as one_or, or_right as or_other, eqb-true, eq-eqb, ne_eqb, and_parts}
pub use Rattle.std.proofs.lemmas.Bool.{and_from as both}
use Rattle.reo_values.proofs.Truths.{if_then}

pub then_if : (a b : Bool) → (a ≡ true → b ≡ true) → (not a || b) ≡ true
then_if true b h = h refl
then_if false b h = refl

pub at_test : (net : Net) (side j : ℕ) → AtSide net j side → is_at_side net side j ≡ true
at_test net side j (inl e) = one_or (giver_side net j == side) (taker_side net j == side) (eq-eqb (giver_side net j) side e)
at_test net side j (inr e) = or_other (giver_side net j == side) (taker_side net j == side) (eq-eqb (taker_side net j) side e)

test_at_for : (net : Net) (side j : ℕ) (t : Bool) → (giver_side net j == side) ≡ t → (t || (taker_side net j == side)) ≡ true → AtSide net j side
test_at_for net side j true is h = inl (eqb-true (giver_side net j) side is)
test_at_for net side j false is h = inr (eqb-true (taker_side net j) side h)

pub test_at : (net : Net) (side j : ℕ) → is_at_side net side j ≡ true → AtSide net j side
test_at net side j h = test_at_for net side j (giver_side net j == side) refl h

-- At the giver's side a value has its giver's mark, and so has a row.
module _ (net : Net) (side j : ℕ) (here : giver_side net j ≡ side) where
  yes_gives : (giver_side net j == side) ≡ true
  yes_gives = eq-eqb (giver_side net j) side here

  pub giver_value : (v : JointValue) → value_mark net side j v ≡ giver_mark v
  giver_value v = ap (λ (t : Bool). cond t (giver_mark v) (taker_mark v)) yes_gives

  pub giver_row_mark : (row : ℕ) → mark_at_joint net side row j ≡ mark_in net row (joint_of net j).giver
  giver_row_mark row = ap (λ (t : Bool). mark_in net row (cond t (joint_of net j).giver (joint_of net j).taker)) yes_gives

module _ (net : Net) (wired : IsWired net) (side j : ℕ) (lt : j < length net.joints) (here : taker_side net j ≡ side) where
  not_gives : (giver_side net j == side) ≡ false
  not_gives = ne_eqb (giver_side net j) side (λ same. wired.apart j no_joint lt (same ∙ sym here))

  pub taker_value : (v : JointValue) → value_mark net side j v ≡ taker_mark v
  taker_value v = ap (λ (t : Bool). cond t (giver_mark v) (taker_mark v)) not_gives

  pub taker_row_mark : (row : ℕ) → mark_at_joint net side row j ≡ mark_in net row (joint_of net j).taker
  taker_row_mark row = ap (λ (t : Bool). mark_in net row (cond t (joint_of net j).giver (joint_of net j).taker)) not_gives

-- A row that fits a choice has the marks of its values.
pub fit_mark : (net : Net) → IsWired net → (names : Names) (choice : Choice) (side row j : ℕ) → Fits net names choice side row → j < length net.joints → AtSide net j side → value_mark net side j (choice j) ≡ mark_at_joint net side row j
fit_mark net wired names choice side row j fits lt (inl here) = giver_value net side j here (choice j) ∙ (fits.gives j lt here).mark ∙ sym (giver_row_mark net side j here row)
fit_mark net wired names choice side row j fits lt (inr here) = taker_value net wired side j lt here (choice j) ∙ (fits.takes j lt here).mark ∙ sym (taker_row_mark net wired side j lt here row)

-- Rows have one number at a place exactly where their marks suit each other at each joint there.
pub told : (net : Net) → IsWired net → (turn : ℕ) (p : KeyPlace) (row other : ℕ) → side_of_place p < length (all_sides net.primitives) → IsRowOf net (side_of_place p) row → IsRowOf net (side_of_place p) other
    → MarksAgree net (side_of_place p) (suits p) row other ↔ (number_of net turn p row ≡ number_of net turn p other)
told net wired turn (Class side) row other lt r o = classes_told net wired turn side row other lt r o
told net wired turn (Row side) row other lt r o = rows_told net wired side row other lt r o

module _ (net : Net) (wired : IsWired net) (turn : ℕ) (p : KeyPlace) (side_in : side_of_place p < length (all_sides net.primitives)) where
  abbrev here : ℕ
  here = side_of_place p

  joint_is : (j : ℕ) (d : Joint) → j < length net.joints → get_or net.joints j d ≡ joint_of net j
  joint_is j d lt = get_or_default net.joints j d no_joint lt

  pub one_number : (row other : ℕ) → IsRowOf net here row → IsRowOf net here other
      → ((j : ℕ) → j < length net.joints → AtSide net j here → suits p (mark_at_joint net here row j) (mark_at_joint net here other j) ≡ true)
      → number_of net turn p row ≡ number_of net turn p other
  one_number row other row_in other_in all = (told net wired turn p row other side_in row_in other_in).0 (record {
    givers = λ j d lt at.
        let is : giver_side net j ≡ here = sym (ap (λ (x : Joint). side_at net x.giver) (joint_is j d lt)) ∙ at in
        subst (λ (x : Joint). suits p (mark_in net row x.giver) (mark_in net other x.giver) ≡ true) (sym (joint_is j d lt))
        (subst (λ (m : Mark). suits p m (mark_in net other (joint_of net j).giver) ≡ true) (giver_row_mark net here j is row)
        (subst (λ (m : Mark). suits p (mark_at_joint net here row j) m ≡ true) (giver_row_mark net here j is other) (all j lt (inl is))));
    takers = λ j d lt at.
        let is : taker_side net j ≡ here = sym (ap (λ (x : Joint). side_at net x.taker) (joint_is j d lt)) ∙ at in
        subst (λ (x : Joint). suits p (mark_in net row x.taker) (mark_in net other x.taker) ≡ true) (sym (joint_is j d lt))
        (subst (λ (m : Mark). suits p m (mark_in net other (joint_of net j).taker) ≡ true) (taker_row_mark net wired here j lt is row)
        (subst (λ (m : Mark). suits p (mark_at_joint net here row j) m ≡ true) (taker_row_mark net wired here j lt is other) (all j lt (inr is))));
  })

  pub all_suit : (row other : ℕ) → IsRowOf net here row → IsRowOf net here other → number_of net turn p row ≡ number_of net turn p other
      → (j : ℕ) → j < length net.joints → AtSide net j here → suits p (mark_at_joint net here row j) (mark_at_joint net here other j) ≡ true
  all_suit row other row_in other_in equal j lt (inl is) =
      let all = (told net wired turn p row other side_in row_in other_in).1 equal in
      subst (λ (m : Mark). suits p m (mark_at_joint net here other j) ≡ true) (sym (giver_row_mark net here j is row))
      (subst (λ (m : Mark). suits p (mark_in net row (joint_of net j).giver) m ≡ true) (sym (giver_row_mark net here j is other)) (all.givers j no_joint lt is))
  all_suit row other row_in other_in equal j lt (inr is) =
      let all = (told net wired turn p row other side_in row_in other_in).1 equal in
      subst (λ (m : Mark). suits p m (mark_at_joint net here other j) ≡ true) (sym (taker_row_mark net wired here j lt is row))
      (subst (λ (m : Mark). suits p (mark_in net row (joint_of net j).taker) m ≡ true) (sym (taker_row_mark net wired here j lt is other)) (all.takers j no_joint lt is))

  module _ (names : Names) (inside : ℕ → Bool) (sets : Family) (row : ℕ) (is_in : inside here ≡ true) (in_table : IsRowOf net here row) (rows : ℕ → ℕ) (choice : Choice) where
    pub held_number : IsChosen net names inside (held_to net p row sets) rows choice → number_of net turn p (rows here) ≡ number_of net turn p row
    held_number a =
        let fits = a.fits here is_in in
        one_number (rows here) row fits.in_table in_table (λ j lt at.
        let left = (and_parts (sets j (choice j)) (value_suits net p row j (choice j)) (a.from here is_in j lt at)).1 in
        let good = if_then (is_at_side net here j) (suits p (value_mark net here j (choice j)) (mark_at_joint net here row j)) left (at_test net here j at) in
        subst (λ (m : Mark). suits p m (mark_at_joint net here row j) ≡ true) (fit_mark net wired names choice here (rows here) j fits lt at) good)

    pub number_held : IsChosen net names inside sets rows choice → number_of net turn p (rows here) ≡ number_of net turn p row → IsChosen net names inside (held_to net p row sets) rows choice
    number_held a equal =
        let fits = a.fits here is_in in
        record {
          fits = a.fits;
          from = λ side is j lt at.
              both (sets j (choice j)) (value_suits net p row j (choice j)) (a.from side is j lt at)
              (then_if (is_at_side net here j) (suits p (value_mark net here j (choice j)) (mark_at_joint net here row j)) (λ t.
              let there = test_at net here j t in
              subst (λ (m : Mark). suits p m (mark_at_joint net here row j) ≡ true) (sym (fit_mark net wired names choice here (rows here) j fits lt there))
              (all_suit (rows here) row fits.in_table in_table equal j lt there)));
        }

pub held_within : (net : Net) (inside : ℕ → Bool) (p : KeyPlace) (row : ℕ) (sets : Family) → IsWithin net inside (held_to net p row sets) sets
held_within net inside p row sets j side v lt at is h = (and_parts (sets j v) (value_suits net p row j v) h).0
