-- Each assignment by rows and items whose items have numbers is one by values, and the first is the first.
use Rattle.std.proofs.Common.{◌≡◌, ◌≢◌, inl, inr, ℕ, ◌<◌, List, Bool, true, length, get_or, Option, None, Some, IsSome, refl, ap, sym, ◌∙◌, subst, arith}
use Rattle.std.proofs.lemmas.Bool.{cases_Bool, cases_lt}
use Rattle.std.proofs.lemmas.List.{ext_get_or, get_or_default}
use Rattle.std.proofs.lemmas.List.FromFn.{get_or-map-range_with_len, length-map-range_with_len}
use Rattle.std.specs.declared.cmp.Ordering.TheVariants.{Less}
use Rattle.reo_values.specs.declared.value.Value.{Value}
use Rattle.reo_net_base.specs.declared.mark.Mark.{Mark}
use Rattle.reo_net_base.specs.declared.mark.Mark.TheVariants.{F, G, R, J}
use Rattle.reo_net_base.specs.declared.joint.End.{End}
use Rattle.reo_net_base.specs.declared.joint.Joint.{Joint}
use Rattle.reo_net_base.specs.Marks.{marks_match}
use Rattle.reo_net_base.specs.Net.{Net, no_side, side_at, row_at, mark_at}
use Rattle.reo_net_base.specs.Sides.{side_count}
use Rattle.reo_net_base.specs.First.{positions, order_by}
use Rattle.reo_net_base.specs.Colouring.{given_at, HasItem, ItemFits}
use Rattle.reo_net_base.specs.Wired.{IsWired, IsEnd}
use Rattle.reo_net_laws.specs.Parts.{IsClosed, IsAssignment}
use Rattle.reo_net_laws.specs.Keys.{within}
use Rattle.reo_net_laws.proofs.Items.{given_same, some_item}
use Rattle.reo_joint_values.proofs.Sides.{row_is, same_side_at, row_in_table, gives_at}
use Rattle.reo_joint_values.specs.declared.value.JointValue.{JointValue}
use Rattle.reo_joint_values.specs.declared.value.JointValue.TheVariants.{Flow, RG, GR, GG, Jam}
use Rattle.reo_joint_values.specs.Values.{giver_mark, taker_mark, Names, Choice, Family, item_named, items_of, no_joint, joint_of, giver_side, taker_side, AtSide}
use Rattle.reo_joint_values.specs.Fitting.{GivesValue, TakesValue, Fits, IsFrom}
use Rattle.reo_joint_values.specs.Chosen.{rows_of}
use Rattle.reo_joint_values.specs.Ties.{AreSides, AreNamed, HasChoice, AssignmentsAreChoices, FirstByValues}
use Rattle.reo_joint_values.proofs.Fitting.{items_count, item_chosen}
use Rattle.reo_joint_values.proofs.Inside.{at_inside}
use Rattle.reo_joint_values.proofs.Assigning.{mark_by, given_by, lets_by, choices_are_assignments}

-- A value with these marks and this item.
pub record Valued (names : Names) (j : ℕ) (giver taker : Mark) (item : Option Value) : Type 0 where
  pub value : JointValue
  pub giver_is : giver_mark value ≡ giver
  pub taker_is : taker_mark value ≡ taker
  pub item_is : item_named names j value ≡ item

no_item : (o : Option Value) → ((item : Value) → o ≡ Some item → ⊥) → None ≡ o
no_item None never = refl
no_item (Some item) never = absurd (never item refl)

-- Marks that match are those of a value.
valued : (names : Names) (j : ℕ) (giver taker : Mark) (o : Option Value) → marks_match giver taker ≡ true → (giver ≡ F → IsSome o)
    → ((item : Value) → o ≡ Some item → giver ≡ F) → ((item : Value) → o ≡ Some item → (n : ℕ) × (names j n ≡ Some item)) → Valued names j giver taker o
valued names j F F o h some flows named =
    let item = some_item o (some refl) in
    let number = named item.0 item.1 in
    record { value = Flow number.0; giver_is = refl; taker_is = refl; item_is = number.1 ∙ sym item.1 }
valued names j R G o h some flows named = record { value = RG; giver_is = refl; taker_is = refl; item_is = no_item o (λ item e. let no_flow : R ≡ F = flows item e in cc) }
valued names j G R o h some flows named = record { value = GR; giver_is = refl; taker_is = refl; item_is = no_item o (λ item e. let no_flow : G ≡ F = flows item e in cc) }
valued names j G G o h some flows named = record { value = GG; giver_is = refl; taker_is = refl; item_is = no_item o (λ item e. let no_flow : G ≡ F = flows item e in cc) }
valued names j J J o h some flows named = record { value = Jam; giver_is = refl; taker_is = refl; item_is = no_item o (λ item e. let no_flow : J ≡ F = flows item e in cc) }
valued names j giver taker o h some flows named = cc

-- What an item that fits says.
module _ (net : Net) (rows : List ℕ) (items : List (Option Value)) (j : Joint) where
  flows_some : (o : Option Value) → ItemFits net rows items j o → mark_at net rows j.giver ≡ F → IsSome o
  flows_some None fits flows = absurd (fits flows)
  flows_some (Some item) fits flows = refl

  has_item : (o : Option Value) (item : Value) → ItemFits net rows items j o → o ≡ Some item → HasItem net rows items j item
  has_item o item fits is = subst (λ (x : Option Value). ItemFits net rows items j x) is fits

  given_item : (o : Option Value) → ItemFits net rows items j o → mark_at net rows j.giver ≡ F → given_at net rows items j.giver ≡ o
  given_item None fits flows = absurd (fits flows)
  given_item (Some item) fits flows = fits.given

-- A value with the marks and the item that rows and items have at a joint.
abbrev pub ValuedBy : Net → Names → List ℕ → List (Option Value) → ℕ → Type 0
ValuedBy net names rows items j = Valued names j (mark_at net rows (joint_of net j).giver) (mark_at net rows (joint_of net j).taker) (get_or items j None)

module _ (net : Net) (names : Names) (inside : ℕ → Bool) (rows : List ℕ) (items : List (Option Value)) (a : IsAssignment net inside rows items) (named : AreNamed net names inside items) where
  abbrev item_of : ℕ → Option Value
  item_of j = get_or items j None

  fits_of : (j : ℕ) → j < length net.joints → inside (giver_side net j) ≡ true → ItemFits net rows items (joint_of net j) (item_of j)
  fits_of j lt is = a.items_fit j no_joint lt is

  -- Where items have numbers there is such a value.
  named_value : (j : ℕ) → j < length net.joints → inside (giver_side net j) ≡ true → ValuedBy net names rows items j
  named_value j lt is =
      valued names j (mark_at net rows (joint_of net j).giver) (mark_at net rows (joint_of net j).taker) (item_of j) (a.matched j no_joint lt is)
      (λ flows. flows_some net rows items (joint_of net j) (item_of j) (fits_of j lt is) flows)
      (λ item item_is. (has_item net rows items (joint_of net j) (item_of j) item (fits_of j lt is) item_is).flows)
      (λ item item_is. named j item lt is item_is)

module _ (net : Net) (wired : IsWired net) (names : Names) (inside : ℕ → Bool) (closed : IsClosed net inside) (real : AreSides net inside)
    (rows : List ℕ) (items : List (Option Value)) (a : IsAssignment net inside rows items) (sets : Family) (value_at : (j : ℕ) → j < length net.joints → inside (giver_side net j) ≡ true → (v : ValuedBy net names rows items j) × (sets j v.value ≡ true)) where
  abbrev item_at : ℕ → Option Value
  item_at j = get_or items j None

  fits_at : (j : ℕ) → j < length net.joints → inside (giver_side net j) ≡ true → ItemFits net rows items (joint_of net j) (item_at j)
  fits_at j lt is = a.items_fit j no_joint lt is

  abbrev ValueAt : ℕ → Type 0
  ValueAt j = (v : ValuedBy net names rows items j) × (sets j v.value ≡ true)

  record Pick (j : ℕ) : Type 0 where
    value : JointValue
    good : j < length net.joints → inside (giver_side net j) ≡ true → (v : ValueAt j) × (v.0.value ≡ value)

  pick : (j : ℕ) → Pick j
  pick j = elim (cases_lt j (length net.joints)) [
    | inl lt ↦ elim (cases_Bool (inside (giver_side net j))) [
      | inl is ↦ record { value = (value_at j lt is).0.value; good = λ x y. (value_at j lt is, refl) }
      | inr off ↦ record { value = Jam; good = λ x y. cc (off, y) }
    ]
    | inr out ↦ record { value = Jam; good = λ x y. absurd (omega arith) }
  ]

  choice : Choice
  choice j = (pick j).value

  -- The value chosen at a joint has its marks and its item.
  module _ (j : ℕ) (lt : j < length net.joints) (is : inside (giver_side net j) ≡ true) where
    giver_is : giver_mark (choice j) ≡ mark_at net rows (joint_of net j).giver
    unfolding choice
    giver_is = let g = (pick j).good lt is in sym (ap giver_mark g.1) ∙ g.0.0.giver_is

    taker_is : taker_mark (choice j) ≡ mark_at net rows (joint_of net j).taker
    unfolding choice
    taker_is = let g = (pick j).good lt is in sym (ap taker_mark g.1) ∙ g.0.0.taker_is

    item_is : item_named names j (choice j) ≡ item_at j
    unfolding choice
    item_is = let g = (pick j).good lt is in sym (ap (λ (v : JointValue). item_named names j v) g.1) ∙ g.0.0.item_is

  -- What is given by the rows is given by the choice.
  given_alike : (j : ℕ) → j < length net.joints → inside (giver_side net j) ≡ true → mark_at net rows (joint_of net j).giver ≡ F
      → given_at net rows (items_of net names choice) (joint_of net j).giver ≡ given_at net rows items (joint_of net j).giver
  given_alike j lt is flows =
      let e : End = (joint_of net j).giver in
      let e_in : IsEnd net.primitives e = wired.givers j no_joint lt in
      let below = row_in_table net wired e e_in rows no_side (a.in_tables (giver_side net j) no_side (real (giver_side net j) is) is) in
      given_same net wired rows (items_of net names choice) items e e_in (items_count net names choice) a.one_item
      (gives_at net wired e e_in rows (wired.gives j no_joint lt) below flows)
      (λ from k d from_in k_in taker.
      let at : taker_side net k ≡ giver_side net j =
      ap (λ (x : Joint). side_at net x.taker) (get_or_default net.joints k no_joint d k_in) ∙ ap (side_at net) taker ∙ same_side_at net e from from_in in
      let k_is = at_inside net inside closed k (giver_side net j) (giver_side net k) k_in (inr at) (inl refl) is in
      item_chosen net names choice k k_in ∙ item_is k k_in k_is)

  -- Each side's row fits the values chosen.
  module _ (side : ℕ) (is : inside side ≡ true) where
    abbrev row : ℕ
    row = get_or rows side 0

    row_at_side : (e : End) → side_at net e ≡ side → row_at net rows e ≡ row
    row_at_side e at = row_is net rows e ∙ ap (λ (k : ℕ). get_or rows k 0) at

    giver_inside : (j : ℕ) → j < length net.joints → AtSide net j side → inside (giver_side net j) ≡ true
    giver_inside j lt at = at_inside net inside closed j side (giver_side net j) lt at (inl refl) is

    gives : (j : ℕ) → j < length net.joints → giver_side net j ≡ side → GivesValue net names choice row (joint_of net j).giver j (choice j)
    gives j lt at =
        let e : End = (joint_of net j).giver in
        let here = giver_inside j lt (inl at) in
        record {
          mark = giver_is j lt here ∙ mark_by net rows row e (row_at_side e at);
          item = λ flows.
              let mark : mark_at net rows e ≡ F = sym (giver_is j lt here) ∙ flows in
              sym (given_by net names choice rows row e (row_at_side e at))
              ∙ given_alike j lt here mark
              ∙ given_item net rows items (joint_of net j) (item_at j) (fits_at j lt here) mark
              ∙ sym (item_is j lt here);
        }

    takes : (j : ℕ) → j < length net.joints → taker_side net j ≡ side → TakesValue net names row (joint_of net j).taker j (choice j)
    takes j lt at =
        let e : End = (joint_of net j).taker in
        let here = giver_inside j lt (inr at) in
        record {
          mark = taker_is j lt here ∙ mark_by net rows row e (row_at_side e at);
          let_in = λ item is_item.
              let has = has_item net rows items (joint_of net j) (item_at j) item (fits_at j lt here) (sym (item_is j lt here) ∙ is_item) in
              sym (lets_by net rows row e item (row_at_side e at)) ∙ has.let_in;
        }

    side_fits : Fits net names choice side row
    side_fits = record { in_table = λ d. a.in_tables side d (real side is) is; gives = gives; takes = takes }

    side_from : IsFrom net sets choice side
    unfolding choice
    side_from j lt at =
        let g = (pick j).good lt (giver_inside j lt at) in
        subst (λ (v : JointValue). sets j v ≡ true) g.1 g.0.1

  -- With values of given sets the assignment is one by values of the sets.
  pub has_chosen : HasChoice net names inside sets rows items
  has_chosen = record {
    choice = choice;
    chosen = record { fits = side_fits; from = side_from };
    items_are = item_is;
  }

pub assignments_are_choices : AssignmentsAreChoices
assignments_are_choices net wired names inside sets closed real has rows items a named =
    has_chosen net wired names inside closed real rows items a sets (λ j lt is.
    let v = named_value net names inside rows items a named j lt is in
    let has_it = has j v.value lt is (λ flows.
    let some = flows_some net rows items (joint_of net j) (get_or items j None) (a.items_fit j no_joint lt is) (sym v.giver_is ∙ flows) in
    subst (λ (o : Option Value). IsSome o) (sym v.item_is) some) in
    (v, has_it))

-- A list of rows is that of its elements.
pub same_rows : (net : Net) (rows : List ℕ) → length rows ≡ side_count net → rows_of net (λ side. get_or rows side 0) ≡ rows
same_rows net rows count =
    let length_is : length (rows_of net (λ side. get_or rows side 0)) ≡ side_count net = length-map-range_with_len {X = ℕ} (λ side. get_or rows side 0) 0 (side_count net) in
    ext_get_or 0 (rows_of net (λ side. get_or rows side 0)) rows (length_is ∙ sym count) (λ i lt.
    get_or-map-range_with_len {X = ℕ} (λ side. get_or rows side 0) 0 (side_count net) i i 0 (omega (arith, length_is)) (omega arith))

pub first_by_values : FirstByValues
first_by_values net wired order is_order names inside sets closed real has named turn rows choice first = record {
  assignment = choices_are_assignments net wired order is_order names inside sets closed rows choice first.chosen;
  least = λ others other_items a.
      let c = assignments_are_choices net wired names inside sets closed real has others other_items a (named others other_items a) in
      subst (λ (xs : List ℕ). order_by (within inside (positions net turn)) xs (rows_of net rows) ≢ Less) (same_rows net others a.one_row)
      (first.least (λ side. get_or others side 0) c.choice c.chosen);
}
