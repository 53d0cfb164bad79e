-- Rows that fit values, and what the items that they give hang on.
use Rattle.std.proofs.Common.{◌≡◌, inl, inr, ℕ, ◌<◌, length, get_or, Option, None, Some, IsSome, refl, ap, sym, ◌∙◌, subst, arith}
use Rattle.std.specs.Option.{option_and_then, is_some}
use Rattle.std.proofs.lemmas.List.{get_or_default}
use Rattle.std.proofs.lemmas.List.FromFn.{get_or-map-range_with_len, length-map-range_with_len}
use Rattle.reo_values.specs.declared.value.Value.{Value}
use Rattle.reo_net_base.specs.declared.mark.Mark.{Mark}
use Rattle.reo_net_base.specs.declared.mark.Mark.TheVariants.{F, G, R, J}
use Rattle.reo_net_base.specs.declared.joint.End.{End}
use Rattle.reo_net_base.specs.declared.joint.Joint.{Joint}
use Rattle.reo_net_base.specs.Net.{Net, end_of, side_at, side_of_end}
use Rattle.reo_net_base.specs.Colouring.{taken_at}
use Rattle.reo_net_base.specs.Wired.{IsWired, IsEnd}
use Rattle.reo_net_laws.specs.Ends.{mark_in, from_in, IsRowOf}
use Rattle.reo_net_laws.proofs.Joined.{ends_joined, source_taken}
use Rattle.reo_joint_values.proofs.Sides.{side_at_is}
use Rattle.reo_net_laws.proofs.Items.{taken_one}
use Rattle.reo_joint_values.specs.declared.value.JointValue.{JointValue}
use Rattle.reo_joint_values.specs.Values.{Names, Choice, item_named, items_of, no_joint, joint_of, giver_side, taker_side, AtSide}
use Rattle.reo_joint_values.specs.Fitting.{given_for, given_in, GivesValue, TakesValue, Fits}
use Rattle.reo_joint_values.specs.Works.{IsRowAt, Follows, IsDependent, IsGivenAs}

pub items_count : (net : Net) (names : Names) (c : Choice) → length (items_of net names c) ≡ length net.joints
items_count net names c = length-map-range_with_len {X = Option Value} (λ j. item_named names j (c j)) 0 (length net.joints)

pub item_chosen : (net : Net) (names : Names) (c : Choice) (j : ℕ) → j < length net.joints → get_or (items_of net names c) j None ≡ item_named names j (c j)
item_chosen net names c j lt = get_or-map-range_with_len {X = Option Value} (λ j. item_named names j (c j)) 0 (length net.joints) j j None lt (omega arith)

-- A row of a side is one of the table of each end of the side.
row_at_end : (net : Net) → IsWired net → (e : End) → IsEnd net.primitives e → (side row : ℕ) → side_at net e ≡ side → IsRowOf net side row → IsRowAt net row e
row_at_end net wired e is side row at in_table =
    let there = subst (λ (s : ℕ). IsRowOf net s row) (sym at) in_table (side_of_end net e) in
    rw (side_at_is net wired e is (side_of_end net e)) at there

pub giver_row : (net : Net) → IsWired net → (side row k : ℕ) → k < length net.joints → giver_side net k ≡ side → IsRowOf net side row → IsRowAt net row (joint_of net k).giver
giver_row net wired side row k lt at in_table = row_at_end net wired (joint_of net k).giver (wired.givers k no_joint lt) side row at in_table

pub taker_row : (net : Net) → IsWired net → (side row k : ℕ) → k < length net.joints → taker_side net k ≡ side → IsRowOf net side row → IsRowAt net row (joint_of net k).taker
taker_row net wired side row k lt at in_table = row_at_end net wired (joint_of net k).taker (wired.takers k no_joint lt) side row at in_table

-- What decides the item that a row gives at a joint: nothing, as where it does not flow or the state decides, or what is taken in at one joint.
pub data Decided (net : Net) (side row k : ℕ) : Type 0 where
  by_none : (IsDependent net row k → ⊥) → Decided net side row k
  by_joint : (j : ℕ) → j < length net.joints → taker_side net j ≡ side → Follows net row k j → mark_in net row (joint_of net j).taker ≡ F
      → ((i : ℕ) → i < length net.joints → Follows net row k i → i ≡ j) → Decided net side row k

-- An item that follows one is dependent.
pub follows_dependent : (net : Net) (row k j : ℕ) → Follows net row k j → IsDependent net row k
follows_dependent net row k j f = record { flows = f.flows; from = ap is_some f.from }

module _ (net : Net) (wired : IsWired net) (side row k : ℕ) (lt : k < length net.joints) (at : giver_side net k ≡ side) (in_table : IsRowOf net side row) where
  decided_for : (m : Mark) (o : Option ℕ) → mark_in net row (joint_of net k).giver ≡ m → from_in net row (joint_of net k).giver ≡ o → Decided net side row k
  decided_for G o m_is o_is = by_none (λ d. let no_flow : G ≡ F = sym m_is ∙ d.flows in cc)
  decided_for R o m_is o_is = by_none (λ d. let no_flow : R ≡ F = sym m_is ∙ d.flows in cc)
  decided_for J o m_is o_is = by_none (λ d. let no_flow : J ≡ F = sym m_is ∙ d.flows in cc)
  decided_for F None m_is o_is = by_none (λ d. let none : IsSome {T = ℕ} None = subst (λ (x : Option ℕ). IsSome x) o_is d.from in cc)
  decided_for F (Some from) m_is o_is =
      let giver : End = (joint_of net k).giver in
      let source = source_taken net wired k row from no_joint lt (giver_row net wired side row k lt at in_table) m_is o_is in
      let taker : (joint_of net source.0).taker ≡ end_of giver.primitive from = source.1.taker no_joint in
      by_joint source.0 source.1.in_range (ap (side_at net) taker ∙ source.1.same_side ∙ at)
      (record { flows = m_is; primitive = ap (λ (e : End). e.primitive) taker; from = o_is ∙ sym (ap (λ (e : End). Some e.end) taker) })
      (ap (mark_in net row) taker ∙ source.1.flows)
      (λ i i_in follows.
      let same : Some (joint_of net i).taker.end ≡ Some from = sym follows.from ∙ o_is in
      let end_same : (joint_of net i).taker.end ≡ from = cc in
      source.1.only i no_joint i_in (λ x. record { primitive = follows.primitive x; end = end_same x }))

  pub decided : Decided net side row k
  decided = decided_for (mark_in net row (joint_of net k).giver) (from_in net row (joint_of net k).giver) refl refl

-- What a row gives, by what decides it.
module _ (net : Net) (wired : IsWired net) (names : Names) (c : Choice) (row k : ℕ) where
  pub given_by_state : (IsDependent net row k → ⊥) → mark_in net row (joint_of net k).giver ≡ F
      → (from_in net row (joint_of net k).giver ≡ None) × (given_in net names c row (joint_of net k).giver ≡ given_for net row (joint_of net k).giver None)
  unfolding given_in
  given_by_state never flows =
      let giver : End = (joint_of net k).giver in
      elim (from_in net row giver) as (λ o. from_in net row giver ≡ o → (from_in net row giver ≡ None) × (given_in net names c row giver ≡ given_for net row giver None)) [
        | None ↦ λ none. (none, ap (λ o. given_for net row giver (option_and_then (λ from. taken_at net.joints (items_of net names c) (end_of giver.primitive from)) o)) none)
        | Some from ↦ λ some. absurd (never (record { flows = flows; from = ap is_some some }))
      ] refl

  pub given_by_joint : (j : ℕ) → j < length net.joints → Follows net row k j → given_in net names c row (joint_of net k).giver ≡ given_for net row (joint_of net k).giver (item_named names j (c j))
  unfolding given_in
  given_by_joint j lt follows =
      let giver : End = (joint_of net k).giver in
      let from : ℕ = (joint_of net j).taker.end in
      let taker : (joint_of net j).taker ≡ end_of giver.primitive from = λ x. record { primitive = follows.primitive x; end = from } in
      let taken : taken_at net.joints (items_of net names c) (end_of giver.primitive from) ≡ get_or (items_of net names c) j None =
      taken_one net.joints (items_of net names c) (end_of giver.primitive from) j no_joint (items_count net names c) lt taker (λ i z i_in here.
      (ends_joined net wired).one_taker i j z i_in lt (here ∙ sym taker ∙ ap (λ (x : Joint). x.taker) (get_or_default net.joints j no_joint z lt))) in
      ap (λ o. given_for net row giver (option_and_then (λ f. taken_at net.joints (items_of net names c) (end_of giver.primitive f)) o)) follows.from
      ∙ ap (given_for net row giver) (taken ∙ item_chosen net names c j lt)

-- A value that fits what a row gives is the one given for what is taken.
module _ (net : Net) (names : Names) (c : Choice) (row k : ℕ) (taken : Option Value)
    (given : mark_in net row (joint_of net k).giver ≡ F → given_in net names c row (joint_of net k).giver ≡ given_for net row (joint_of net k).giver taken) (v : JointValue) where
  pub as_given : GivesValue net names c row (joint_of net k).giver k v → IsGivenAs net names row k taken v
  as_given g = record { mark = g.mark; item = λ flows. sym (given (sym g.mark ∙ flows)) ∙ g.item flows }

  pub is_given : IsGivenAs net names row k taken v → GivesValue net names c row (joint_of net k).giver k v
  is_given g = record { mark = g.mark; item = λ flows. given (sym g.mark ∙ flows) ∙ g.item flows }

-- A row's fit hangs on the values at its side alone.
module _ (net : Net) (wired : IsWired net) (names : Names) (c d : Choice) (side row : ℕ) (same : (j : ℕ) → j < length net.joints → AtSide net j side → c j ≡ d j) where
  gives_local : (k : ℕ) → k < length net.joints → giver_side net k ≡ side → IsRowOf net side row → GivesValue net names c row (joint_of net k).giver k (c k) → GivesValue net names d row (joint_of net k).giver k (d k)
  gives_local k lt at in_table g = elim (decided net wired side row k lt at in_table) [
    | by_none never ↦
        let was = as_given net names c row k None (λ flows. (given_by_state net wired names c row k never flows).1) (c k) g in
        is_given net names d row k None (λ flows. (given_by_state net wired names d row k never flows).1) (d k)
        (subst (λ v. IsGivenAs net names row k None v) (same k lt (inl at)) was)
    | by_joint j j_in j_at follows flows only ↦
        let was = as_given net names c row k (item_named names j (c j)) (λ _. given_by_joint net wired names c row k j j_in follows) (c k) g in
        let now = subst (λ v. IsGivenAs net names row k (item_named names j v) (c k)) (same j j_in (inr j_at)) was in
        is_given net names d row k (item_named names j (d j)) (λ _. given_by_joint net wired names d row k j j_in follows) (d k)
        (subst (λ v. IsGivenAs net names row k (item_named names j (d j)) v) (same k lt (inl at)) now)
  ]

  pub fits_local : Fits net names c side row → Fits net names d side row
  fits_local fits = record {
    in_table = fits.in_table;
    gives = λ j lt at. gives_local j lt at fits.in_table (fits.gives j lt at);
    takes = λ j lt at. subst (λ v. TakesValue net names row (joint_of net j).taker j v) (same j lt (inr at)) (fits.takes j lt at);
  }
