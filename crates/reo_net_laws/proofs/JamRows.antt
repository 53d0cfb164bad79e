-- Jam at every side.
use Rattle.std.proofs.Common.{◌≡◌, ℕ, ◌-◌, ◌<◌, Option, None, length, get_or, refl, ap, ◌∙◌, arith}
use Rattle.std.proofs.lemmas.List.{get_or-map, length-map}
use Rattle.reo_values.specs.declared.value.Value.{Value}
use Rattle.reo_net_base.specs.declared.mark.Mark.TheVariants.{J}
use Rattle.reo_net_base.specs.declared.joint.End.{End}
use Rattle.reo_net_base.specs.Net.{Net, Side, all_sides, row_count, side_at, side_of_end, row_at, mark_at}
use Rattle.reo_net_base.specs.Wired.{IsWired, IsEnd}
use Rattle.reo_net_laws.specs.JamRows.{jam_rows, JamIsColouring}
use Rattle.reo_net_laws.proofs.Sides.{are_rows, owner_of, owner_side, row_is, side_in_range, side_at_is}

jam_row_of : (net : Net) (k : ℕ) (d : Side) → k < length (all_sides net.primitives) → get_or (jam_rows net) k 0 ≡ row_count (get_or (all_sides net.primitives) k d) - 1
jam_row_of net k d lt = get_or-map (λ (s : Side). row_count s - 1) (all_sides net.primitives) k d 0 lt

-- Each end jams.
jam_mark : (net : Net) → IsWired net → (e : End) → IsEnd net.primitives e → mark_at net (jam_rows net) e ≡ J
unfolding mark_at
jam_mark net wired e is =
    let side : Side = side_of_end net e in
    let lawful = wired.lawful e.primitive is.0 in
    let side_in = lawful.sides_in e.end is.1 in
    let row : row_at net (jam_rows net) e ≡ row_count side - 1 =
    row_is net (jam_rows net) e ∙ jam_row_of net (side_at net e) side (side_in_range net wired e is) ∙ ap (λ (s : Side). row_count s - 1) (side_at_is net wired e is side) in
    let positive = lawful.some_row side.number side_in in
    ap (λ (r : ℕ). side.of.mark side.number r e.end) row ∙ lawful.jam_row side.number (row_count side - 1) e.end side_in (is.1, refl) (omega arith)

pub jam_colouring : JamIsColouring
jam_colouring net wired = record {
  rows_fit = record {
    in_tables = are_rows (all_sides net.primitives) (jam_rows net) (length-map (all_sides net.primitives) (λ (s : Side). row_count s - 1)) (λ k d lt.
        let o = owner_of net.primitives k lt in
        let positive = (wired.lawful o.primitive o.primitive_in).some_row o.number o.number_in in
        rw (jam_row_of net k d lt, owner_side net.primitives k o d) (omega arith));
    matched = λ j d lt. rw (jam_mark net wired (get_or net.joints j d).giver (wired.givers j d lt), jam_mark net wired (get_or net.joints j d).taker (wired.takers j d lt)) refl;
  };
  one_each = length-map {B = Option Value} net.joints (λ _. None);
  items_fit = λ j d lt. rw (get_or-map {Y = Option Value} (λ _. None) net.joints j d None lt) (rw (jam_mark net wired (get_or net.joints j d).giver (wired.givers j d lt)) (λ e. cc));
}
