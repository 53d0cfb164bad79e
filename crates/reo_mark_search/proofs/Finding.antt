-- The rows that a search comes to are first.
use Rattle.std.proofs.Common.{◌≡◌, ◌∙◌, ◌<◌, ◌++◌, ℕ, Bool, true, List, [], length, slice_index_or, subst, refl, append_assoc}
use Rattle.std.specs.Prelude.{Contains}
use Rattle.std.proofs.lemmas.List.{get_or_default}
use Rattle.reo_net_base.specs.First.{Position}
use Rattle.reo_net_base.specs.Net.{Net}
use Rattle.reo_net_base.specs.Sides.{side_count}
use Rattle.reo_net_base.specs.Wired.{IsWired, IsOrder}
use Rattle.reo_net_laws.specs.Sublists.{sides_in}
use Rattle.reo_net_laws.specs.Knots.{Knotted, AreKnots, in_knot, knot_count}
use Rattle.reo_net_laws.specs.state_laws.States.{IsOpen}
use Rattle.reo_net_laws.specs.state_laws.Walks.{IsWalk}
use Rattle.reo_mark_sets.specs.declared.marks.PlainMarks.{PlainMarks}
use Rattle.reo_mark_search.specs.Fitting.{IsRival, Fits, AreReduced, ArePinned, AreMet}
use Rattle.reo_mark_search.specs.MarkFinding.{IsFound}
use Rattle.reo_mark_search.specs.declared.found.MarkFinding.TheVariants.{Rows}
use Rattle.reo_mark_search.specs.Places.{lead_places, class_places, row_places}
use Rattle.reo_mark_search.specs.Spots.{AreSpots}
use Rattle.reo_mark_search.specs.Walking.{IsWalked}
use Rattle.reo_mark_search.proofs.Ending.{pinned_rival, pinned_fits, walk_first}
use Rattle.reo_mark_search.proofs.Parts.{sides_are, side_here, side_listed, knot_below}
use Rattle.reo_mark_search.proofs.Steps.{walked_reduced}

-- A walk begins where each rival fits.
pub noted_walked : (net : Net) (inside : ℕ → Bool) (noted settled : List PlainMarks) → ((rows : List ℕ) → IsRival net inside rows → Fits net inside noted rows) → AreReduced net inside noted settled → IsWalked net inside [] settled
noted_walked net inside noted settled all reduced =
    walked_reduced net inside [] noted settled (record { walk = λ r rv ft. tt; remain = λ r others rv ft left same. all others left }) reduced

pub rows_found : (net : Net) → IsWired net → (knots : Knotted) → AreKnots net knots → (part : ℕ) → part < knot_count knots → (spots : List (List ℕ)) → AreSpots net spots → (order : List ℕ) → IsOrder net order
    → IsOpen net (in_knot knots.numbers part) → (turn : ℕ) (last : List PlainMarks) (rows : List ℕ) → length rows ≡ side_count net
    → ArePinned net spots (slice_index_or knots.sides part []) (length (slice_index_or knots.sides part [])) last rows
    → AreMet net spots (slice_index_or knots.sides part []) (length (slice_index_or knots.sides part [])) last
    → IsWalked net (in_knot knots.numbers part) ((lead_places net turn (slice_index_or knots.sides part []) ++ class_places net turn (slice_index_or knots.sides part [])) ++ row_places (slice_index_or knots.sides part [])) last
    → IsFound net (in_knot knots.numbers part) turn rows Rows
rows_found net wired knots are part part_in spots are_spots order is_order lets turn last rows one_row pinned met whole =
    let inside : ℕ → Bool = in_knot knots.numbers part in
    let sides : List ℕ = slice_index_or knots.sides part [] in
    let below : (k : ℕ) → inside k ≡ true → k < side_count net = knot_below net knots are part in
    let all : (k : ℕ) → inside k ≡ true → Contains sides k = λ k h. side_listed net knots are part part_in sides refl k (below k h) h in
    let knot = are.are_knots part part_in in
    let rival : IsRival net inside rows = pinned_rival net wired inside knot sides all spots are_spots last rows one_row pinned met in
    let fits : Fits net inside last rows = pinned_fits net wired inside knot sides all spots are_spots last rows one_row pinned met in
    let walk : IsWalk (IsRival net inside) (lead_places net turn sides ++ (class_places net turn sides ++ row_places sides)) rows =
    subst (λ (ps : List Position). IsWalk (IsRival net inside) ps rows) (append_assoc (lead_places net turn sides) (class_places net turn sides) (row_places sides)) (whole.walk rows rival fits) in
    let is : sides ≡ sides_in net inside = sides_are net knots are part part_in sides refl in
    let at : (k : ℕ) → Contains sides k → (inside k ≡ true) × (k < side_count net) = λ k found.
    let here = get_or_default sides found.0 0 k found.1 ∙ found.2 in
    let h : inside k ≡ true = subst (λ (x : ℕ). inside x ≡ true) here (side_here net knots are part part_in sides refl found.0 found.1) in (h, below k h) in (
      record {
        those = rows;
        first = walk_first net wired inside knot sides all order is_order lets turn rows rival
            (subst (λ (xs : List ℕ). IsWalk (IsRival net inside) (lead_places net turn xs ++ (class_places net turn xs ++ row_places xs)) rows) is walk) is at;
        same = λ s lt h. refl;
      },
      rival.no_jam,
    )
