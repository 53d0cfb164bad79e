use Rattle.std.proofs.Common.{◌≡◌, length}
use Rattle.reo_net_base.specs.Net.{net_of}
use Rattle.reo_mark_search.specs.MarkFinding.{IsMarkSearch}
use Rattle.reo_speed.proofs.marks.search.Given as goal

-- What a search keeps stays what it is.
abbrev pub invariant-loop : goal.invariant-loop
invariant-loop g l = record {
  marks : IsMarkSearch (net_of g.P.Primitive.behaviour l.circuit) l.marks;
  one_row : length l.rows ≡ length l.initial.rows;
}
