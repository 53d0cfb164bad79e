-- Primitives at the ends of joints, and joints with items.
use Rattle.std.proofs.Common.{◌≡◌, ◌∙◌, ◌⊎◌, ◌↔◌, inl, inr, ℕ, ◌<◌, Bool, true, false, IsTrue, List, length, get_or, set, sym, refl, arith}
use Rattle.std.proofs.lemmas.Bool.{cases_eq}
use Rattle.std.specs.Prelude.{Option, Some, None, is_some}
use Rattle.std.proofs.lemmas.List.{get_or-set_same, get_or-set_other, length-set}
use Rattle.reo_values.specs.declared.value.Value.{Value}
use Rattle.reo_net_base.specs.declared.mark.Mark.{Mark}
use Rattle.reo_net_base.specs.declared.mark.Mark.TheVariants.{F, G, R, J}
use Rattle.reo_net_base.specs.declared.joint.Joint.{Joint}
use Rattle.reo_net_base.specs.Colouring.{IsColouring, ItemFits}
use Rattle.reo_net_base.specs.Marks.{marks_match}
use Rattle.reo_net_base.specs.Net.{Net, end_of, mark_at}
use Rattle.reo_net_base.specs.Wired.{IsWired}
use Rattle.reo_flows.specs.stepping.Changes.{is_changed}

abbrev pub no_joint : Joint
no_joint = record { giver = end_of 0 0; taker = end_of 0 0 }

-- A joint has an end at a primitive.
abbrev pub IsBeside : Joint → ℕ → Type 0
IsBeside j i = (j.giver.primitive ≡ i) ⊎ (j.taker.primitive ≡ i)

-- A mark that is set, or another.
set_is : (marks : List Bool) (k i : ℕ) → i < length marks → IsTrue (get_or (set marks k true) i false) ↔ ((k ≡ i) ⊎ IsTrue (get_or marks i false))
set_is marks k i lt = elim (cases_eq k i) [
  | inl e ↦ (λ _. inl e, λ _. rw e (get_or-set_same marks i true false lt))
  | inr ne ↦
      let same = get_or-set_other marks k i true false (λ e. ne (sym e)) in
      (λ mark. inr (sym same ∙ mark), λ either. elim either [ inl e ↦ absurd (ne e) | inr mark ↦ same ∙ mark ])
]

pub set_both : (marks : List Bool) (j : Joint) (i : ℕ) → i < length marks
    → IsTrue (is_changed (set (set marks j.giver.primitive true) j.taker.primitive true) i) ↔ (IsBeside j i ⊎ IsTrue (is_changed marks i))
set_both marks j i lt =
    let first = set_is marks j.giver.primitive i lt in
    let count : length (set marks j.giver.primitive true) ≡ length marks = length-set marks j.giver.primitive true in
    let second = set_is (set marks j.giver.primitive true) j.taker.primitive i (omega (arith, count)) in (
      λ mark. elim (second.0 mark) [
        | inl taker ↦ inl (inr taker)
        | inr before ↦ elim (first.0 before) [ inl giver ↦ inl (inl giver) | inr old ↦ inr old ]
      ],
      λ either. elim either [
        | inl beside ↦ elim beside [ inl giver ↦ second.1 (inr (first.1 (inl giver))) | inr taker ↦ second.1 (inl taker) ]
        | inr old ↦ second.1 (inr (first.1 (inr old)))
      ],
    )

-- Matching marks flow together.
pub taker_flows : (giver taker : Mark) → marks_match giver taker ≡ true → giver ≡ F → taker ≡ F
taker_flows F F m e = refl
taker_flows F G m e = absurd cc
taker_flows F R m e = absurd cc
taker_flows F J m e = absurd cc
taker_flows G taker m e = absurd cc
taker_flows R taker m e = absurd cc
taker_flows J taker m e = absurd cc

-- A joint flows where it has an item, and nowhere else.
item_flows : (net : Net) (rows : List ℕ) (items : List (Option Value)) (j : Joint) (item : Option Value) → ItemFits net rows items j item → is_some item ≡ true → mark_at net rows j.giver ≡ F
item_flows net rows items j None fits some = absurd cc
item_flows net rows items j (Some item) fits some = fits.flows

module _ (net : Net) (rows : List ℕ) (items : List (Option Value)) (wired : IsWired net) (is : IsColouring net rows items) where
  -- The giver of a joint with an item flows, and its taker.
  pub with_item : (k : ℕ) → k < length net.joints → is_some (get_or items k None) ≡ true
      → (mark_at net rows (get_or net.joints k no_joint).giver ≡ F) × (mark_at net rows (get_or net.joints k no_joint).taker ≡ F)
  with_item k lt some =
      let j : Joint = get_or net.joints k no_joint in
      let giver = item_flows net rows items j (get_or items k None) (is.items_fit k no_joint lt) some in
      (giver, taker_flows (mark_at net rows j.giver) (mark_at net rows j.taker) (is.rows_fit.matched k no_joint lt) giver)
