-- Lists of the items that can stand at joints.
use Rattle.std.proofs.Common.{◌≡◌, ◌⊎◌, inl, inr, ℕ, zero, suc, ◌+◌, ◌<◌, List, Option, Some, None, length, get_or, refl, ap, sym, ◌∙◌, subst, arith}
use Rattle.std.proofs.lemmas.Bool.{cases_eq, cases_lt}
use Rattle.reo_values.specs.declared.value.Value.{Value}
use Rattle.reo_net_base.specs.declared.mark.Mark.TheVariants.{F}
use Rattle.reo_net_base.specs.declared.joint.End.{End}
use Rattle.reo_net_base.specs.Net.{Net, behaviour_at, end_of}
use Rattle.reo_net_base.specs.Wired.{IsWired, IsOrder}
use Rattle.reo_net_laws.specs.Ends.{mark_in, from_in}
use Rattle.reo_net_laws.proofs.Orders.{place_in, place_of}
use Rattle.reo_joint_values.specs.Standing.{giver_of, taker_of, given_in, passes_in, FlowsAt, Brings, GivesAlone, GivesFor, CanStand}
use Rattle.reo_joint_values.specs.Standing.CanStand.{alone, passed}
use Rattle.reo_joint_values.proofs.InOrder.{order_in_order}
use Rattle.reo_weights.proofs.Decisions.{IsDecided, both_decided, same_decided, true_decided, marks_decided, options_decided}
use Rattle.reo_weights.proofs.EqualItems.{items_decided}
use Rattle.reo_weights.proofs.ListLemmas.{AreOnce}
use Rattle.reo_weights.proofs.Listings.{HasList, listed_same, listed_none, listed_one, listed_either, listed_below, listed_over, listed_once}

-- Whether two ends are one is decided.
ends_decided : (a b : End) → IsDecided (a ≡ b)
ends_decided a b =
    same_decided (λ h i. record { primitive = h.0 i; end = h.1 i }) (λ e. (ap (λ (x : End). x.primitive) e, ap (λ (x : End). x.end) e))
    (both_decided (cases_eq a.primitive b.primitive) (cases_eq a.end b.end))

-- What an option holds, listed.
listed_option : (o : Option Value) → HasList (λ (x : Value). o ≡ Some x)
listed_option None = listed_none (λ (x : Value). None ≡ Some x) (λ x e. cc)
listed_option (Some y) = listed_same (λ (x : Value). y ≡ x) (λ (x : Value). Some y ≡ Some x) (λ x e. ap Some e) (λ x e. cc) (listed_one y)

module _ (net : Net) (giver : End) (row : ℕ) where
  flows_decided : IsDecided (FlowsAt net giver row)
  flows_decided =
      same_decided (λ h. record { plain = h.0; flows = h.1 }) (λ h. (h.plain, h.flows))
      (both_decided (plain_decided (row + 1) ((behaviour_at net.primitives giver.primitive).rows ((behaviour_at net.primitives giver.primitive).side_of giver.end))) (marks_decided (mark_in net row giver) F))
    where
      plain_decided : (a b : ℕ) → IsDecided (a < b)
      plain_decided a b = elim (cases_lt a b) [ inl lt ↦ inl lt | inr le ↦ inr (λ lt. omega (arith, le, lt)) ]

  -- What the row gives by the state alone.
  listed_alone : HasList (GivesAlone net giver row)
  listed_alone = elim (both_decided flows_decided (options_decided cases_eq (from_in net row giver) None)) [
    | inr never ↦ listed_none (GivesAlone net giver row) (λ x h. never (h.flows, h.alone))
    | inl is ↦
        listed_same (λ (x : Value). given_in net row giver None ≡ Some x) (GivesAlone net giver row) (λ x h. record { flows = is.0; alone = is.1; given = h }) (λ x h. h.given)
        (listed_option (given_in net row giver None))
  ]

  module _ (k : ℕ) (k_in : k < length net.joints) where
    brings_by : (o : Option ℕ) → from_in net row giver ≡ o → FlowsAt net giver row → IsDecided (Brings net giver row k)
    brings_by None none flows = inr (λ b. let wrong : None ≡ Some b.from = sym none ∙ b.decides in cc)
    brings_by (Some from) some flows = elim (ends_decided (taker_of net k) (end_of giver.primitive from)) [
      | inl here ↦ inl (record { flows = flows; in_range = k_in; from = from; decides = some; taker = here })
      | inr other ↦ inr (λ b.
          let same : Some from ≡ Some b.from = sym some ∙ b.decides in
          let equal : from ≡ b.from = cc in
          other (b.taker ∙ ap (λ (f : ℕ). end_of giver.primitive f) (sym equal)))
    ]

    brings_decided : IsDecided (Brings net giver row k)
    brings_decided = elim flows_decided [
      | inl flows ↦ brings_by (from_in net row giver) refl flows
      | inr never ↦ inr (λ b. never b.flows)
    ]

    -- What the row gives for an item that comes in at the joint.
    listed_for : Brings net giver row k → (taken : Value) → HasList (GivesFor net giver row k taken)
    listed_for brings taken = elim (true_decided (passes_in net row (taker_of net k) taken)) [
      | inr out ↦ listed_none (GivesFor net giver row k taken) (λ x h. out h.given.let_in)
      | inl let_in ↦
          listed_same (λ (x : Value). given_in net row giver (Some taken) ≡ Some x) (GivesFor net giver row k taken) (λ x h. record { brings = brings; given = record { let_in = let_in; given = h } })
          (λ x h. h.given.given) (listed_option (given_in net row giver (Some taken)))
    ]

    -- What the row gives for the items that can stand at the joint.
    listed_passed : (Brings net giver row k → HasList (CanStand net k)) → HasList (λ (x : Value). (taken : Value) × CanStand net k taken × GivesFor net giver row k taken x)
    listed_passed before = elim brings_decided [
      | inl brings ↦ listed_over (GivesFor net giver row k) (CanStand net k) (before brings) (λ taken stands. listed_for brings taken)
      | inr never ↦ listed_none (λ (x : Value). (taken : Value) × CanStand net k taken × GivesFor net giver row k taken x) (λ x h. never h.2.brings)
    ]

-- What a row gives at a joint for what can stand at the joints.
abbrev Given : Net → ℕ → ℕ → Value → Type 0
Given net j row x =
    GivesAlone net (giver_of net j) row x ⊎ ((k : ℕ) × (k < length net.joints) × ((taken : Value) × CanStand net k taken × GivesFor net (giver_of net j) row k taken x))

module _ (net : Net) (j : ℕ) (j_in : j < length net.joints) where
  abbrev rows : ℕ
  rows = (behaviour_at net.primitives (giver_of net j).primitive).rows ((behaviour_at net.primitives (giver_of net j).primitive).side_of (giver_of net j).end)

  given_stands : (x : Value) (row : ℕ) → Given net j row x → CanStand net j x
  given_stands x row (inl gives) = alone j row x j_in gives
  given_stands x row (inr some) = passed j row some.0 some.2.0 x j_in some.2.2 some.2.1

  stands_given : (x : Value) → CanStand net j x → (row : ℕ) × (row < rows) × Given net j row x
  stands_given x (alone i row y lt gives) = (row, omega (arith, gives.flows.plain), inl gives)
  stands_given x (passed i row k taken y lt gives before) = (row, omega (arith, gives.brings.flows.plain), inr (k, gives.brings.in_range, (taken, before, gives)))

  -- The items that can stand at a joint, where those that bring what is given there have lists.
  listed_there : ((row k : ℕ) → Brings net (giver_of net j) row k → HasList (CanStand net k)) → HasList (CanStand net j)
  listed_there before =
      listed_same (λ (x : Value). (row : ℕ) × (row < rows) × Given net j row x) (CanStand net j) (λ x h. given_stands x h.0 h.2) (λ x h. stands_given x h)
      (listed_below (Given net j) rows (λ row lt.
      listed_either (GivesAlone net (giver_of net j) row) (λ (x : Value). (k : ℕ) × (k < length net.joints) × ((taken : Value) × CanStand net k taken × GivesFor net (giver_of net j) row k taken x))
      (listed_alone net (giver_of net j) row)
      (listed_below (λ k (x : Value). (taken : Value) × CanStand net k taken × GivesFor net (giver_of net j) row k taken x) (length net.joints) (λ k k_in.
      listed_passed net (giver_of net j) row k k_in (before row k)))))

module _ (net : Net) (wired : IsWired net) (order : List ℕ) (is : IsOrder net order) where
  by_place : (m n : ℕ) → n < m → n < length order → HasList (CanStand net (get_or order n 0))
  by_place zero n lt n_in = absurd (omega arith)
  by_place (suc m) n lt n_in =
      listed_there net (get_or order n 0) (place_in net order is n n_in) (λ row k brings.
      let before = (order_in_order net wired order is).brought n row k n_in brings in
      subst (λ (i : ℕ). HasList (CanStand net i)) before.2 (by_place m before.0 (omega (arith, before.1)) (omega (arith, before.1))))

  -- At each joint there is a list of the items that can stand, none twice.
  pub stand_list : (j : ℕ) → j < length net.joints → (l : HasList (CanStand net j)) × AreOnce l.list
  stand_list j lt =
      let place = place_of net order is j lt in
      listed_once items_decided (CanStand net j) (subst (λ (i : ℕ). HasList (CanStand net i)) place.2 (by_place (suc place.0) place.0 (omega arith) place.1))
