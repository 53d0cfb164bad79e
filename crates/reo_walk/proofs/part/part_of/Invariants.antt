use Rattle.std.proofs.Common.{◌≡◌, ◌<◌, ◌-◌, ◌↔◌, ℕ, IsTrue, length, get_or, take, drop}
use Rattle.reo_net_base.specs.Net.{net_of}
use Rattle.reo_walk.specs.Arranged.{IsJamRow}
use Rattle.reo_walk.proofs.part.part_of.Given as goal

abbrev pub invariant-loop-index : goal.invariant-loop-index
invariant-loop-index g l = record {
  sides : l.part.sides ≡ take l.index l.sides;
  rows : l.part.rows ≡ take l.index (drop (length l.chosen - length l.sides) l.chosen);
  jammed : IsTrue l.part.jammed ↔ ((m : ℕ) × (m < length l.part.sides) × IsJamRow (net_of g.P.Primitive.behaviour l.circuit) (get_or l.part.sides m 0) (get_or l.part.rows m 0));
}
