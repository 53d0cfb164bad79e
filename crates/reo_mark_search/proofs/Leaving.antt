-- Sides at which one row is left.
use Rattle.std.proofs.Common.{◌≡◌, ℕ, ◌+◌, ◌<◌, Bool, true, List, length, slice_index, set}
use Rattle.reo_net_base.specs.declared.form.Form.{Form}
use Rattle.reo_net_base.specs.Net.{Net}
use Rattle.reo_net_base.specs.Wired.{IsWired}
use Rattle.reo_net_laws.specs.Parts.{IsClosed}
use Rattle.reo_mark_sets.specs.declared.marks.PlainMarks.{PlainMarks}
use Rattle.reo_mark_sets.specs.Standing.{IsFixed}
use Rattle.reo_mark_search.specs.Places.{class_place, row_place}
use Rattle.reo_mark_search.specs.Spots.{AreSpots, IsSeat}
use Rattle.reo_mark_search.specs.Walking.{AreFixed}
use Rattle.reo_mark_search.proofs.Meeting.{pinned_next, met_side}
use Rattle.reo_mark_search.proofs.Seated.{chosen_taken, fixed_taken}
use Rattle.reo_mark_search.proofs.Steps.{class_next, row_next, taken_goes_on, same_reduced}

pub fixed_next : (net : Net) (wired : IsWired net) (spots : List (List ℕ)) (are : AreSpots net spots) (inside : ℕ → Bool) → IsClosed net inside
    → (sides : List ℕ) (n : ℕ) → n < length sides → inside (slice_index sides n) ≡ true → (form : Form) (places : List ℕ) → IsSeat net spots (slice_index sides n) form places
    → (sets : List PlainMarks) (rows : List ℕ) (row : ℕ) → slice_index sides n < length rows → IsFixed form places row sets
    → AreFixed net inside spots sides n sets rows → AreFixed net inside spots sides (n + 1) sets (set rows (slice_index sides n) row)
fixed_next net wired spots are inside closed sides n lt here form places seat sets rows row row_in fixed before =
    let k : ℕ = slice_index sides n in
    record {
      classes = λ turn. class_next net turn inside sides n lt sets sets sets (before.classes turn)
          (taken_goes_on net inside (class_place net turn k) sets sets sets
          (fixed_taken net wired spots are inside closed seat.primitive seat.side seat.primitive_in seat.side_in k seat.number here form seat.form_is places seat.ends turn row sets fixed.chosen)
          (same_reduced net inside sets));
      numbers = row_next net 0 inside sides n lt sets sets sets before.numbers
          (taken_goes_on net inside (row_place k) sets sets sets
          (chosen_taken net wired spots are inside closed seat.primitive seat.side seat.primitive_in seat.side_in k seat.number here form seat.form_is places seat.ends row sets sets fixed.chosen)
          (same_reduced net inside sets));
      pinned = pinned_next net wired spots are sides n sets sets sets rows row form places seat fixed.chosen (λ x m h. h) (λ x m h. h) row_in before.pinned;
      met = met_side net wired spots are sides n sets form places seat before.met fixed.meets;
    }
