use Rattle.std.proofs.Common.{◌≡◌, ◌<◌, ℕ, slice_index}
use Rattle.reo_net_base.specs.Net.{net_of}
use Rattle.reo_net_laws.specs.Knots.{in_knot}
use Rattle.reo_net_laws.specs.JamRows.{jam_rows}
use Rattle.reo_mark_search.specs.MarkFinding.{AreRowsElsewhere}
use Rattle.reo_mark_search.proofs.walking.jam_all.Given as goal

-- The sides so far have their jam rows.
abbrev pub invariant-loop-index : goal.invariant-loop-index
invariant-loop-index g l = record {
  here : (q : ℕ) → q < l.index → slice_index l.rows (slice_index l.sides q) ≡ slice_index (jam_rows (net_of g.P.Primitive.behaviour l.circuit)) (slice_index l.sides q);
  elsewhere : AreRowsElsewhere (in_knot l.knots.numbers l.part) l.initial.rows l.rows;
}
