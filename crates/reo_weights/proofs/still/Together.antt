-- A first colouring from first assignments of parts.
use Rattle.std.proofs.Common.{◌≡◌, inl, inr, ℕ, ◌<◌, List, [], Option, None, Bool, true, length, get_or, map, refl, ap, sym, ◌∙◌, arith}
use Rattle.std.proofs.lemmas.Bool.{and_parts, eqb-true, lt-ltb, eq-eqb, ltb-true, cases_lt}
use Rattle.std.specs.Prelude.{◌==◌, ◌&&◌, nat_lt}
use Rattle.std.specs.List.{range_with_len}
use Rattle.std.specs.Ordering.{nat_cmp}
use Rattle.std.specs.Cmp.Lexicographic.{slice_cmp}
use Rattle.std.proofs.lemmas.List.{get_or_default}
use Rattle.std.proofs.lemmas.List.FromFn.{get_or-map-range_with_len, length-map-range_with_len}
use native.Mathlib.Bridge.{le_prop}
use Rattle.reo_values.specs.declared.value.Value.{Value}
use Rattle.reo_net_base.specs.declared.joint.Joint.{Joint}
use Rattle.reo_net_base.specs.Sides.{side_count}
use Rattle.reo_net_base.specs.Net.{Net, all_sides, side_at}
use Rattle.reo_net_base.specs.Colouring.{IsColouring}
use Rattle.reo_net_base.specs.First.{Position, key_at, positions, order_by}
use Rattle.reo_net_base.specs.Wired.{IsWired}
use Rattle.reo_net_laws.specs.Parts.{SameKnot, IsAssignment, is_joint_inside}
use Rattle.reo_net_laws.specs.Keys.{within, IsLeastIn}
use Rattle.reo_weights.proofs.Sides.{are_rows, side_in_range}
use Rattle.reo_weights.proofs.Assignments.{agreeing}
use Rattle.reo_net_laws.proofs.Places.{key_inside, positions_in_range}
use Rattle.reo_net_laws.proofs.Orders.{no_joint}
use Rattle.reo_net_laws.proofs.FirstInside.{first_by_parts}
use Rattle.reo_net_laws.specs.Knots.{AreNumbers, in_knot}
use Rattle.reo_net_laws.proofs.Knots.{knot}
use Rattle.reo_weights.specs.still.Joining.{HaveFirsts, PartsMakeFirst}
use Rattle.reo_weights.proofs.still.PartSets.{fewer, same_places}

module _ (net : Net) (wired : IsWired net) (numbers : List ℕ) (count : ℕ) (are : AreNumbers (SameKnot net) (side_count net) numbers count) where
  -- The part of a side.
  part_is : (k s : ℕ) → s < side_count net → in_knot numbers k s ≡ (get_or numbers s 0 == k)
  part_is k s lt = ap (λ (t : Bool). t && (get_or numbers s 0 == k)) (lt-ltb s (length numbers) (omega (arith, are.one_each)))

  in_own : (s : ℕ) → s < side_count net → in_knot numbers (get_or numbers s 0) s ≡ true
  in_own s lt = part_is (get_or numbers s 0) s lt ∙ eq-eqb (get_or numbers s 0) (get_or numbers s 0) refl

  number_is : (k s : ℕ) → in_knot numbers k s ≡ true → get_or numbers s 0 ≡ k
  number_is k s h = eqb-true (get_or numbers s 0) k ((and_parts (nat_lt s (length numbers)) (get_or numbers s 0 == k) h).1)

  in_range : (k s : ℕ) → in_knot numbers k s ≡ true → s < side_count net
  in_range k s h =
      let lt = ltb-true s (length numbers) ((and_parts (nat_lt s (length numbers)) (get_or numbers s 0 == k) h).0) in
      omega (arith, lt, are.one_each)

  module _ (turn : ℕ) (rows : List ℕ) (one_row : length rows ≡ side_count net) (parts : HaveFirsts net numbers count turn rows) where
    -- The items of the first assignment of a part.
    items_of : ℕ → List (Option Value)
    items_of k = elim (cases_lt k count) [ inl lt ↦ (parts k lt).items | inr not_below ↦ [] ]

    items_are : (k : ℕ) (lt : k < count) → items_of k ≡ (parts k lt).items
    unfolding items_of
    items_are k lt =
        elim (cases_lt k count) as (λ c. elim c [ inl here ↦ (parts k here).items | inr not_below ↦ [] ] ≡ (parts k lt).items) [
          | inl here ↦ λ i. (parts k (le_prop here lt i)).items
          | inr not_below ↦ absurd (omega arith)
        ]

    -- The number of the part of a joint.
    abbrev part_of : ℕ → ℕ
    part_of j = get_or numbers (side_at net (get_or net.joints j no_joint).giver) 0

    -- At each joint the item of its part.
    items : List (Option Value)
    items = map (λ j. get_or (items_of (part_of j)) j None) (range_with_len 0 (length net.joints))

    one_item : length items ≡ length net.joints
    unfolding items
    one_item = length-map-range_with_len {X = Option Value} (λ j. get_or (items_of (part_of j)) j None) 0 (length net.joints)

    item_at : (j : ℕ) → j < length net.joints → get_or items j None ≡ get_or (items_of (part_of j)) j None
    unfolding items
    item_at j lt = get_or-map-range_with_len {X = Option Value} (λ j. get_or (items_of (part_of j)) j None) 0 (length net.joints) j j None lt (omega arith)

    same_items : (k j : ℕ) (d : Joint) (lt : k < count) → j < length net.joints → is_joint_inside net (in_knot numbers k) (get_or net.joints j d) ≡ true
        → get_or items j None ≡ get_or (parts k lt).items j None
    same_items k j d lt j_in h =
        let joint : get_or net.joints j d ≡ get_or net.joints j no_joint = get_or_default net.joints j d no_joint j_in in
        let number : part_of j ≡ k = ap (λ (x : Joint). get_or numbers (side_at net x.giver) 0) (sym joint) ∙ number_is k (side_at net (get_or net.joints j d).giver) h in
        item_at j j_in ∙ (λ i. get_or ((ap items_of number ∙ items_are k lt) i) j None)

    -- The rows and items are an assignment of each part.
    of_part : (k : ℕ) → k < count → IsAssignment net (in_knot numbers k) rows items
    of_part k lt =
        let part = parts k lt in
        agreeing net wired (in_knot numbers k) (knot net wired numbers count are k lt).closed rows part.others items part.items part.first.assignment one_row one_item
        (λ s s_in h. part.same s s_in h) (λ j d j_in h. same_items k j d lt j_in h)

    of_side : (s : ℕ) → s < side_count net → IsAssignment net (in_knot numbers (get_or numbers s 0)) rows items
    of_side s lt = of_part (get_or numbers s 0) (are.in_range s lt)

    colouring : IsColouring net rows items
    colouring = record {
      rows_fit = record {
        in_tables = are_rows (all_sides net.primitives) rows one_row (λ s d lt. (of_side s lt).in_tables s d lt (in_own s lt));
        matched = λ j d lt.
            let s : ℕ = side_at net (get_or net.joints j d).giver in
            let s_in : s < side_count net = side_in_range net wired (get_or net.joints j d).giver (wired.givers j d lt) in
            (of_side s s_in).matched j d lt (in_own s s_in);
      };
      one_each = one_item;
      items_fit = λ j d lt.
          let s : ℕ = side_at net (get_or net.joints j d).giver in
          let s_in : s < side_count net = side_in_range net wired (get_or net.joints j d).giver (wired.givers j d lt) in
          (of_side s s_in).items_fit j d lt (in_own s s_in);
    }

    -- No assignment of the part of a side stands before the rows.
    least : (s : ℕ) → s < side_count net → IsLeastIn net (λ t. get_or numbers t 0 == get_or numbers s 0) turn rows
    least s lt others other_items is less =
        let k : ℕ = get_or numbers s 0 in
        let part = parts k (are.in_range s lt) in
        let here : ℕ → Bool = λ t. get_or numbers t 0 == k in
        let places : within (in_knot numbers k) (positions net turn) ≡ within here (positions net turn) =
        same_places (in_knot numbers k) here (side_count net) (λ t t_in. part_is k t t_in) (positions net turn) (positions_in_range net turn) in
        part.first.least others other_items (fewer net wired here (in_knot numbers k) (λ t t_in h. sym (part_is k t t_in) ∙ h) others other_items is)
        (ap (λ (key : List ℕ). slice_cmp nat_cmp (key_at (within (in_knot numbers k) (positions net turn)) others) key)
        (sym (key_inside (in_knot numbers k) (positions net turn) rows part.others (λ t h. part.same t (in_range k t h) h)))
        ∙ ap (λ (ps : List Position). order_by ps others rows) places ∙ less)

-- The rows with the items of the parts are a first colouring.
pub parts_make_first : PartsMakeFirst
parts_make_first net wired numbers count are turn rows one_row parts = record {
  items = items net wired numbers count are turn rows one_row parts;
  first = first_by_parts net wired turn (λ s. get_or numbers s 0) rows (items net wired numbers count are turn rows one_row parts)
      (colouring net wired numbers count are turn rows one_row parts) (least net wired numbers count are turn rows one_row parts);
  same = same_items net wired numbers count are turn rows one_row parts;
}
