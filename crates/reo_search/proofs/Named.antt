-- Numbers for the items that can stand at the joints of a set, and assignments by them.
use Rattle.std.proofs.Common.{◌≡◌, inl, inr, ℕ, zero, suc, ◌-◌, ◌<◌, Bool, true, false, cond, List, [], ◌∷◌, length, get_or, drop, Option, Some, None, refl, sym, ◌∙◌, subst, arith}
use Rattle.std.specs.Prelude.{map}
use Rattle.std.specs.Bool.{◌==◌}
use Rattle.std.specs.Ordering.{nat_cmp}
use Rattle.std.specs.Cmp.Lexicographic.{slice_cmp}
use Rattle.std.proofs.lemmas.Bool.{cases_eq, cases_lt}
use Rattle.std.proofs.lemmas.Option.{slice_get_within, slice_get_read, get_or_from_slice_get}
use Rattle.reo_values.specs.declared.value.Value.{Value}
use Rattle.reo_net_base.specs.declared.joint.Joint.{Joint}
use Rattle.reo_net_base.specs.Wired.{NoCycle, IsWired, IsOrder}
use Rattle.reo_net_base.specs.Net.{Net, from_sides, to_sides}
use Rattle.reo_net_base.specs.Sides.{side_count}
use Rattle.reo_net_laws.specs.Parts.{IsClosed, IsAssignment}
use Rattle.reo_net_laws.specs.Keys.{IsFirstIn}
use Rattle.reo_net_laws.specs.Sublists.{sides_in, part_rows}
use Rattle.reo_net_laws.specs.JamRows.{jam_rows, no_items}
use Rattle.reo_net_laws.proofs.JamRows.{jam_colouring}
use Rattle.reo_net_laws.proofs.Sets.{each_part}
use Rattle.reo_joint_values.specs.Many.{AreDistinct, IsJointIn}
use Rattle.reo_reach.specs.Supplied.{Supplied, items_at, is_wide}
use Rattle.reo_reach.specs.Width.{TellsItems}
use Rattle.reo_joint_values.proofs.StandLemmas.{items_stand}
use Rattle.reo_net_base.proofs.Orders.{order_or_cycle}
use Rattle.reo_weights.specs.Weights.{AreNamed, all_values}
use Rattle.reo_joint_values.specs.declared.value.JointValue.{JointValue}
use Rattle.reo_joint_values.specs.declared.value.JointValue.TheVariants.{Flow, RG, GR, GG, Jam}
use Rattle.reo_joint_values.specs.Values.{Names, items_of, no_joint}
use Rattle.reo_joint_values.specs.Chosen.{IsChosen, rows_of}
use Rattle.reo_joint_values.specs.Ties.{AreSides, IsNamed, HasNamed, HasChoice, IsFirstChosen}
use Rattle.reo_joint_values.specs.Ties as ties
use Rattle.reo_joint_values.proofs.Choosing.{assignments_are_choices, first_by_values}
use Rattle.reo_rows.specs.Sets.{names_of}
use Rattle.reo_walk.specs.Places.{places_in}
use Rattle.reo_walk.specs.Settling.{HasChosen, IsFirstWith}
use Rattle.reo_search.specs.choices.Trying.{IsLeastOf}
use Rattle.reo_walk.proofs.Firsts.{key_is, last_are, last_rows_are}

-- Where lists have just the items that can stand, each once, their places are the numbers.
pub are_named : (net : Net) (inside : ℕ → Bool) (supplied : Supplied) → TellsItems net inside supplied → ((j : ℕ) → IsJointIn net inside j → is_wide supplied j ≡ false)
    → ((j : ℕ) → IsJointIn net inside j → AreDistinct (items_at supplied j)) → AreNamed net inside (names_of supplied.items)
are_named net inside supplied told narrow distinct = record {
  sound = λ j n item is e. (told.whole narrow j item is).0 (n, slice_get_within (items_at supplied j) n item e, get_or_from_slice_get (items_at supplied j) n item item e);
  whole = λ j item is stands.
      let there = (told.whole narrow j item is).1 stands in
      (there.0, slice_get_read (items_at supplied j) (length (items_at supplied j)) there.0 item refl there.1 (sym there.2));
  once = λ j m n item is a b.
      let list : List Value = items_at supplied j in
      let m_is : get_or list m item ≡ item = get_or_from_slice_get list m item item a in
      let n_is : get_or list n item ≡ item = get_or_from_slice_get list n item item b in
      elim (cases_eq m n) [
        | inl e ↦ e
        | inr other ↦ elim (cases_lt m n) [
          | inl lt ↦ absurd (distinct j is m n item lt (slice_get_within list n item b) (m_is ∙ sym n_is))
          | inr ge ↦ absurd (distinct j is n m item (omega (arith, ge, other)) (slice_get_within list m item a) (n_is ∙ sym m_is))
        ]
      ];
}

named_value : (names : Names) (j : ℕ) (v : JointValue) → IsNamed names j v → all_values names j v ≡ true
named_value names j (Flow n) h = h refl
named_value names j RG h = refl
named_value names j GR h = refl
named_value names j GG h = refl
named_value names j Jam h = refl

no_item_at : (joints : List Joint) (j : ℕ) (item : Value) → get_or (map (λ _. None) joints) j None ≡ Some item → ⊥
no_item_at [] j item e = cc
no_item_at (x ∷ xs) zero item e = cc
no_item_at (x ∷ xs) (suc j) item e = no_item_at xs j item e

number_same : (b : Bool) → (cond b 1 0 == 1) ≡ b
number_same true = refl
number_same false = refl

-- Jam at each side is an assignment of each set.
jam_assignment : (net : Net) → IsWired net → (inside : ℕ → Bool) → IsAssignment net inside (jam_rows net) (no_items net)
jam_assignment net wired inside =
    let part : ℕ → ℕ = λ s. cond (inside s) 1 0 in
    let same : (λ (s : ℕ). part s == 1) ≡ inside = λ i s. number_same (inside s) i in
    subst (λ (f : ℕ → Bool). IsAssignment net f (jam_rows net) (no_items net)) same ((each_part net part (jam_rows net) (no_items net)).1 (jam_colouring net wired) 1)

module _ (net : Net) (wired : IsWired net) (names : Names) (inside : ℕ → Bool) (closed : IsClosed net inside) (real : AreSides net inside) where
  has_named : HasNamed net names inside (all_values names)
  has_named j v lt is h = named_value names j v h

  -- There is an assignment.
  pub some_chosen : HasChosen net names inside (all_values names)
  some_chosen =
      let c = assignments_are_choices net wired names inside (all_values names) closed real has_named (jam_rows net) (no_items net) (jam_assignment net wired inside) (λ j item lt is e. absurd (no_item_at net.joints j item e)) in
      record { rows = λ side. get_or (jam_rows net) side 0; choice = c.choice; chosen = c.chosen }

  module _ (named : AreNamed net inside names) (no_cycle : NoCycle (from_sides net) (to_sides net)) where
    items_named : (rows : List ℕ) (items : List (Option Value)) → IsAssignment net inside rows items → ties.AreNamed net names inside items
    items_named rows items a j item lt is e = named.whole j item (lt, is) (items_stand order_or_cycle net wired no_cycle inside closed rows items a j no_joint item lt is e)

    module _ (order : List ℕ) (is_order : IsOrder net order) (turn : ℕ) (below : (m : ℕ) → m < length (sides_in net inside) → get_or (sides_in net inside) m 0 < side_count net)
        (chosen : List ℕ) (least : IsLeastOf (IsChosen net names inside (all_values names)) net turn (places_in net (sides_in net inside)) chosen) where
      first_chosen : IsFirstChosen net names inside turn (all_values names) least.rows least.choice
      first_chosen = record {
        chosen = least.is_of;
        least = λ others other_choice a.
            let here = key_is net turn inside least.rows below ∙ least.numbers_are in
            let there = key_is net turn inside others below in
            λ e. least.least others other_choice a ((λ i. slice_cmp nat_cmp (sym there i) (sym here i)) ∙ e);
      }

      -- Its rows and items are the first.
      pub first_in : IsFirstIn net inside turn (rows_of net least.rows) (items_of net names least.choice)
      first_in = first_by_values net wired order is_order names inside (all_values names) closed real has_named items_named turn least.rows least.choice first_chosen

      first_with : IsFirstWith net names inside turn (all_values names) (places_in net (sides_in net inside)) chosen
      first_with = record { first = record { rows = least.rows; choice = least.choice; chosen = least.is_of }; numbers_are = least.numbers_are; least = least.least }

      -- The last numbers are its rows, as a list has them.
      pub last_are_rows : drop (length chosen - length (sides_in net inside)) chosen ≡ part_rows (sides_in net inside) (rows_of net least.rows)
      unfolding first_with
      last_are_rows = last_rows_are net wired order is_order names inside closed real (all_values names) (all_values names) (λ j v lt is. (λ h. h, λ h. h)) turn chosen first_with below

      -- And as an assignment has them.
      pub last_are_those : drop (length chosen - length (sides_in net inside)) chosen ≡ map least.rows (sides_in net inside)
      unfolding first_with
      last_are_those = last_are net wired order is_order names inside closed real (all_values names) (all_values names) (λ j v lt is. (λ h. h, λ h. h)) turn chosen first_with below
