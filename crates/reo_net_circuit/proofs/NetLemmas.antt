-- Where sides and rows stand.
use Rattle.std.proofs.Common.{◌≡◌, ℕ, ◌+◌, ◌<◌, List, length, get_or, arith}
use Rattle.reo_net_base.specs.declared.joint.End.{End}
use Rattle.reo_net_base.specs.Behaviour.{Behaviour}
use Rattle.reo_net_base.specs.Wired.{IsWired, IsEnd}
use Rattle.reo_net_base.specs.Net.{Net, Side, all_sides, first_side, behaviour_at, side_of_end, side_at, row_at}
use Rattle.reo_net_base.specs.Colouring.{AreRows}
pub use Rattle.reo_net_laws.proofs.Joined.{one_at}
use Rattle.reo_net_circuit.proofs.Sides.{row_below, side_in, side_is, first_before as sides_before}

-- The side of an end is one of the sides.
pub end_side_in : (net : Net) → IsWired net → (e : End) → IsEnd net.primitives e → side_at net e < length (all_sides net.primitives)
unfolding side_at
end_side_in net wired e is =
    side_in net.primitives e.primitive ((behaviour_at net.primitives e.primitive).side_of e.end) is.0 ((wired.lawful e.primitive is.0).sides_in e.end is.1)

pub end_side_is : (net : Net) → IsWired net → (e : End) → IsEnd net.primitives e → (d : Side) → get_or (all_sides net.primitives) (side_at net e) d ≡ side_of_end net e
unfolding side_at
end_side_is net wired e is d =
    side_is net.primitives e.primitive ((behaviour_at net.primitives e.primitive).side_of e.end) d is.0 ((wired.lawful e.primitive is.0).sides_in e.end is.1)

-- The sides of an earlier primitive stand before those of a later one.
pub first_before : (bs : List Behaviour) (q p s : ℕ) → q < p → p < length bs → s < (behaviour_at bs q).sides → first_side bs q + s < first_side bs p
first_before bs q p s lt p_in s_in = omega (arith, s_in, sides_before bs q p lt (omega (arith, p_in)))

-- The row of an end is in the table of its side.
pub row_in_table : (net : Net) → IsWired net → (rows : List ℕ) → AreRows (all_sides net.primitives) rows → (e : End) → IsEnd net.primitives e
    → row_at net rows e < (behaviour_at net.primitives e.primitive).rows ((behaviour_at net.primitives e.primitive).side_of e.end)
unfolding row_at
row_in_table net wired rows are e is =
    let below = row_below (all_sides net.primitives) rows are (side_at net e) (side_of_end net e) (end_side_in net wired e is) in
    rw (end_side_is net wired e is (side_of_end net e)) at below
