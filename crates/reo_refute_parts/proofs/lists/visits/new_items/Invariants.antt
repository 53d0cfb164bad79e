use Rattle.std.proofs.Common.{[], ◌+◌, ◌≤◌, length}
use Rattle.std.specs.List.{flat_map, range_with_len}
use Rattle.reo_net_base.specs.Net.{net_of}
use Rattle.reo_refute_base.specs.Items.{given_by}
use Rattle.reo_refute_parts.specs.lists.Noted.{IsNoted}
use Rattle.reo_refute_parts.proofs.lists.visits.new_items.Given as goal

-- What the rows so far give is noted, and all have room.
abbrev pub invariant-loop-row : goal.invariant-loop-row
invariant-loop-row g l = record {
  noted : IsNoted l.old [] (flat_map (given_by (net_of g.P.Primitive.behaviour l.circuit) l.lists l.joint) (range_with_len 0 l.row)) l.new;
  few : length l.old + length l.new ≤ 256;
}
